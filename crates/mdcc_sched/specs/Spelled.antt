-- How events are spelled.
use Rattle.std.specs.Prelude.{ℕ, ◌≡◌, List, [], ◌∷◌, ◌++◌, map, codes, decimal, Some, Ok}
use Rattle.std.specs.List.{join_with_byte}
use Rattle.mdcc_base.specs.AreQuorums.{AreQuorums}
use Rattle.mdcc_option.specs.declared.cluster.Cluster.{Cluster}
use Rattle.mdcc_def_language.specs.Report.{image_text}
use Rattle.mdcc_def_language.specs.Schedule.{line_of}
use Rattle.mdcc_def_language.specs.declared.events.Event.{Event}
use Rattle.mdcc_def_language.specs.declared.events.Event.TheVariants.{Read, Begin, Deliver, Settle, Tick, Sweep, Crash, Restart, Stop}
use Rattle.mdcc_sched_words.specs.Spelled.{update_text}

-- numbers with spaces between them
abbrev pub numbers_text : List ℕ → List ℕ
numbers_text numbers = join_with_byte 32 (map decimal numbers)

abbrev pub event_text : Event → List ℕ
event_text (Read centre key) = codes "read " ++ (decimal centre ++ (32 ∷ key))
event_text (Begin centre updates) = codes "begin " ++ (decimal centre ++ (32 ∷ join_with_byte 32 (map update_text updates)))
event_text (Deliver numbers) = codes "deliver " ++ numbers_text numbers
event_text (Settle []) = codes "settle"
event_text (Settle (centre ∷ centres)) = codes "settle " ++ numbers_text (centre ∷ centres)
event_text (Tick centre) = codes "tick " ++ decimal centre
event_text (Sweep centre) = codes "sweep " ++ decimal centre
event_text (Crash centre) = codes "crash " ++ decimal centre
event_text (Restart centre) = codes "restart " ++ decimal centre
event_text (Stop centre call image) = codes "stop " ++ (decimal centre ++ (32 ∷ (decimal call ++ (32 ∷ image_text image))))

-- a line that is read as an event is the text of that event, and a line end
abbrev pub EventsAreSpelled : Type 0
EventsAreSpelled = (cluster : Cluster) (line : List ℕ) (event : Event) → AreQuorums cluster.quorums → line_of cluster line ≡ Ok (Some event) → line ≡ event_text event ++ codes "\n"
