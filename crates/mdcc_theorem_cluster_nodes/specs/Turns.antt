-- What the receives of one centre gave in the turns that a call of `serve_node` made.
use Rattle.std.proofs.Common.{inl, inr}
use Rattle.std.specs.Prelude.{List, [], ℕ, ◌++◌, ◌∷◌}
use Rattle.mdcc_config.specs.declared.config.Config.{Config}
use Rattle.mdcc_theorem_server_runs.specs.Centres.{given_at}
use Rattle.mdcc_def_server_runs.specs.Acts.{Act}
use Rattle.mdcc_def_server_runs.specs.Servers.{Log}
use Rattle.mdcc_def_server_runs.specs.Turns.{Given}
use Rattle.mdcc_serve.specs.Stages.{StopsAt}
use Rattle.mdcc_serve_site.specs.declared.fault.ServeFault.{ServeFault}

-- of one that ended before its end, with the turn that it was in
abbrev pub given_before : (config : Config) (logs : List Log) (turns : ℕ) (fault : ServeFault) (acts rest : List Act) → StopsAt config logs turns fault acts rest → List Given
given_before config logs turns fault acts rest (inl opening) = []
given_before config logs turns fault acts rest (inr (inl turn)) = given_at 0 turn.given ++ turn.at.given ∷ []
given_before config logs turns fault acts rest (inr (inr (inl end))) = given_at 0 end.given
given_before config logs turns fault acts rest (inr (inr (inr line))) = given_at 0 line.given
