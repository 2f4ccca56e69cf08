-- What a run that serves centres did is what its server did.
use Rattle.std.proofs.Common.{Bool, Err, List, Ok, Option, Result, Some, false, inl, inr, subst, sym, true, ℕ, ◌∙◌, ◌≡◌}
use Rattle.std.specs.Prelude.{IfSome, MatchBool}
use Rattle.mdcc_command_endings.specs.Readings.{GivesConfig, IsConfigRead}
use Rattle.mdcc_command_endings.specs.declared.fault.Failure.{Failure}
use Rattle.mdcc_command_serve.specs.Commands.{RunsCluster, RunsNode, ServesCluster, ServesNode, ServesOne}
use Rattle.mdcc_config.specs.declared.config.Config.{Config}
use Rattle.mdcc_config.specs.declared.faults.ConfigFault.{ConfigFault}
use Rattle.mdcc_def_protocol.specs.Belongs.{is_centre}
use Rattle.mdcc_disks.specs.Disks.{Disk}
use Rattle.mdcc_link.specs.Link.{LinkCall}
use Rattle.mdcc_serve.specs.declared.served.Served.{Served}
use Rattle.mdcc_theorem_cluster_nodes.specs.Calls.{Setting}
use Rattle.mdcc_theorem_program_runs.specs.Runs.{RunServesCentre, RunServesCentres}

of-true : (b : Bool) (Then Else : Type 0) → b ≡ true → MatchBool b Then Else → Then
of-true true Then Else e it = it
of-true false Then Else e it = absurd (cc)

same-config : (read : Result Config ConfigFault) (one other : Config) → read ≡ Ok one → read ≡ Ok other → one ≡ other
same-config (Err fault) one other e f = absurd (cc)
same-config (Ok config) one other e f = let first : config ≡ one = cc in let second : config ≡ other = cc in sym first ∙ second

module _ {D L O : Type 0} (disk : D → ℕ → Disk) (may_leave : D → ℕ → List ℕ → Type 0) (tears : ℕ → Type 0) (calls : L → Option (List LinkCall)) (lost : L → ℕ) (held : O → Option (List ℕ)) (at : Setting disk may_leave tears calls lost held) (input : List ℕ) (config : Config) (is : IsConfigRead input (Ok config)) (served : Result Served Failure) where
  node-read : (centre : ℕ) → is_centre config.cluster centre ≡ true → (read : Result Config Failure) → GivesConfig input read
      → ServesNode disk may_leave tears calls lost held at.disks_before at.disks_after at.link_before at.link_after at.out_before at.out_after read centre at.turns served
      → RunServesCentre disk may_leave tears calls lost held config centre at
  node-read centre there (Err failure) gives did = inr did.1
  node-read centre there (Ok other) gives did =
      let one : ServesOne disk may_leave tears calls lost held at.disks_before at.disks_after at.link_before at.link_after at.out_before at.out_after config centre at.turns served =
      of-true (is_centre config.cluster centre) _ _ there
      (subst (λ (c : Config). ServesNode disk may_leave tears calls lost held at.disks_before at.disks_after at.link_before at.link_after at.out_before at.out_after (Ok c) centre at.turns served)
      (same-config _ other config gives.is is.is) did) in
      inl (record { result = one.result; serves = one.serves })

  pub node-run : (centre : ℕ) → is_centre config.cluster centre ≡ true → (left : Option (List ℕ)) → left ≡ Some input
      → IfSome left (λ (bytes : List ℕ). RunsNode disk may_leave tears calls lost held at.disks_before at.disks_after at.link_before at.link_after at.out_before at.out_after bytes centre at.turns served)
      → RunServesCentre disk may_leave tears calls lost held config centre at
  node-run centre there left known runs =
      let run : RunsNode disk may_leave tears calls lost held at.disks_before at.disks_after at.link_before at.link_after at.out_before at.out_after input centre at.turns served =
      subst (λ (l : Option (List ℕ)). IfSome l (λ (bytes : List ℕ). RunsNode disk may_leave tears calls lost held at.disks_before at.disks_after at.link_before at.link_after at.out_before at.out_after bytes centre at.turns served)) known runs in
      node-read centre there run.read run.gives run.serves

  cluster-read : (read : Result Config Failure) → GivesConfig input read
      → ServesCluster disk may_leave tears calls lost held at.disks_before at.disks_after at.link_before at.link_after at.out_before at.out_after read at.turns served
      → RunServesCentres disk may_leave tears calls lost held config at
  cluster-read (Err failure) gives did = inr did.1
  cluster-read (Ok other) gives did =
      let all = subst (λ (c : Config). ServesCluster disk may_leave tears calls lost held at.disks_before at.disks_after at.link_before at.link_after at.out_before at.out_after (Ok c) at.turns served)
      (same-config _ other config gives.is is.is) did in
      inl (record { result = all.result; serves = all.serves })

  pub cluster-run : (left : Option (List ℕ)) → left ≡ Some input
      → IfSome left (λ (bytes : List ℕ). RunsCluster disk may_leave tears calls lost held at.disks_before at.disks_after at.link_before at.link_after at.out_before at.out_after bytes at.turns served)
      → RunServesCentres disk may_leave tears calls lost held config at
  cluster-run left known runs =
      let run : RunsCluster disk may_leave tears calls lost held at.disks_before at.disks_after at.link_before at.link_after at.out_before at.out_after input at.turns served =
      subst (λ (l : Option (List ℕ)). IfSome l (λ (bytes : List ℕ). RunsCluster disk may_leave tears calls lost held at.disks_before at.disks_after at.link_before at.link_after at.out_before at.out_after bytes at.turns served)) known runs in
      cluster-read run.read run.gives run.serves
