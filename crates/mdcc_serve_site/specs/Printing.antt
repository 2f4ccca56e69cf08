-- Several lines are printed.
use Rattle.std.specs.Io.KnownBytes.{Appends}
use Rattle.std.specs.Prelude.{Err, List, Ok, Option, Result, take, ℕ, ◌++◌, ◌≡◌, ◌≤◌, ◌⊎◌}
use Rattle.mdcc_base.specs.Causes.{Rose}
use Rattle.mdcc_def_server_runs.specs.Acts.{Act, printed}
use Rattle.mdcc_serve_site.specs.Causes.{IsPrinting, text_begun}
use Rattle.mdcc_serve_site.specs.SiteState.{PrintsAll}
use Rattle.mdcc_serve_site.specs.declared.fault.ServeFault.{ServeFault}

module _ {O : Type 0} (held : O → Option (List ℕ)) (faults : O → ℕ) where
  -- A front of the lines was printed, and then a front of the next, or there was no memory for it.
  pub record PrintsFront (acts : List Act) (fault : ServeFault) (old new : O) : Type 0 where
    pub done : List Act
    pub rest : List Act
    pub are : done ++ rest ≡ acts
    pub comes : (fault ≡ ServeFault.Memory) ⊎ ((fault ≡ ServeFault.Output) × IsPrinting rest × Rose (faults old) (faults new))
    pub more : ℕ
    pub front : Appends (held old) (held new) (printed done ++ take more (text_begun fault rest))
    pub later : faults old ≤ faults new

  abbrev pub PrintsInOrder : List Act → Result (Unit {0}) ServeFault → O → O → Type 0
  PrintsInOrder acts (Ok done) old new = PrintsAll held faults acts old new
  PrintsInOrder acts (Err fault) old new = PrintsFront acts fault old new
