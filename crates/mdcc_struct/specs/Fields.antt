-- How a structure lies in memory.
use Rattle.std.specs.Prelude.{ℕ, ◌≡◌, ◌+◌, ◌-◌, ◌≤◌, ◌==◌, if◌then◌else◌, IsTrue, List, [], ◌∷◌, ◌++◌, All, get_or, length, map}
use Rattle.mdcc_option.specs.declared.choices.Mark.{Mark}
use Rattle.mdcc_option.specs.declared.choices.Mark.TheVariants.{Accept, Reject}
use Rattle.mdcc_struct.specs.declared.options.Entry.{Entry}
use Rattle.mdcc_struct.specs.Maps.{are_ascending}
use Rattle.mdcc_struct.specs.Options.{Marks, accepts_in}

-- what a place says: 0 a rejection, and else a mark among the accepted ones, counted from 1
abbrev pub mark_in : List Mark → ℕ → Mark
mark_in accepted place = if place == 0 then Reject else get_or accepted (place - 1) Reject

-- the marks of entries
abbrev pub marks_in : List Mark → List Entry → Marks
marks_in accepted entries = map (λ e. (e.tx, mark_in accepted e.place)) entries

-- places are within, transactions ascend, and as many entries accept as there are accepted marks
pub record AreEntries (accepted : List Mark) (entries : List Entry) : Type 0 where
  pub within : All (λ e. e.place ≤ length accepted) entries
  pub ascending : IsTrue (are_ascending (marks_in accepted entries))
  pub counted : length (accepts_in (marks_in accepted entries)) ≡ length accepted

-- the accepted marks with one more mark, where that is none that is rejected
abbrev pub kept : List Mark → Mark → List Mark
kept accepted (Accept choice) = accepted ++ Accept choice ∷ []
kept accepted Reject = accepted

-- the place of that mark
abbrev pub kept_place : List Mark → Mark → ℕ
kept_place accepted (Accept choice) = length accepted + 1
kept_place accepted Reject = 0
