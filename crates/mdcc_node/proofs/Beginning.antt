-- What a begin does, by what the manager answers.
use Rattle.std.proofs.Common.{◌≡◌, ℕ, List, Option, Some, None, Ok, Err, refl}
use Rattle.mdcc_base.specs.declared.identifiers.TxId.{TxId}
use Rattle.mdcc_base.specs.declared.key.Key.{Key}
use Rattle.mdcc_base.specs.Unless.{GivesUnless}
use Rattle.mdcc_manager.specs.Begin.{tx_begun}
use Rattle.mdcc_manager.specs.Begin.{is_begin_memory as begin_memory}
use Rattle.mdcc_node.specs.Represents.{RepresentsAfter, RepresentsCentre}
use Rattle.mdcc_node.specs.StepAnswers.{UnlessMemory, step_result, is_step_memory}
use Rattle.mdcc_node.specs.StepParts.{refused_given}
use Rattle.mdcc_node.specs.declared.node.Node.{Node}
use Rattle.mdcc_option.specs.declared.cluster.Cluster.{Cluster}
use Rattle.mdcc_option.specs.declared.faults.BeginFault.{BeginFault}
use Rattle.mdcc_option.specs.declared.items.Part.{Part}
use Rattle.mdcc_def_protocol.specs.Facts.{epoch_of}
use Rattle.mdcc_def_protocol.specs.Manager.{begin, begin_with, begin_fault, begun_transaction}
use Rattle.mdcc_def_rules.specs.ManagerRules.{begin_step, begin_step_by, begun_step}
use Rattle.mdcc_def_protocol.specs.Manager.{key_refused}
use Rattle.mdcc_def_rules.specs.Steps.{answering}
use Rattle.mdcc_def_protocol.specs.Volatile.{Volatile}
use Rattle.mdcc_def_messages.specs.declared.facts.Fact.{Fact}
use Rattle.mdcc_def_rules.specs.declared.node.Answer.{Answer}
use Rattle.mdcc_def_rules.specs.Here.{here}

module _ (cluster : Cluster) (me : ℕ) (facts : List Fact) (volatile : Volatile) (parts : List Part) where
  begun-by : (tx : TxId) (fault : Option (Key × BeginFault))
      → Ok tx ≡ tx_begun (begin_with me (epoch_of facts) volatile.manager parts fault)
      → begin_step_by (here cluster me facts) volatile parts (begin_with me (epoch_of facts) volatile.manager parts fault)
      ≡ begun_step cluster me volatile parts (tx, (begun_transaction me (epoch_of facts) volatile.manager parts).1)
  begun-by tx None e =
      let is : tx ≡ (begun_transaction me (epoch_of facts) volatile.manager parts).0 = cc in
      rw is refl
  begun-by tx (Some fault) e = absurd (cc)

  pub step_begun : (tx : TxId) → Ok tx ≡ tx_begun (begin me (epoch_of facts) facts volatile.manager parts)
      → begin_step (here cluster me facts) volatile parts ≡ begun_step cluster me volatile parts (tx, (begun_transaction me (epoch_of facts) volatile.manager parts).1)
  step_begun tx e = begun-by tx (begin_fault facts volatile.manager parts) e

  refused-by : (fault : BeginFault) (found : Option (Key × BeginFault))
      → Err fault ≡ tx_begun (begin_with me (epoch_of facts) volatile.manager parts found)
      → begin_step_by (here cluster me facts) volatile parts (begin_with me (epoch_of facts) volatile.manager parts found)
      ≡ answering volatile (Answer.Refused (key_refused facts parts) fault)
  refused-by fault None e = absurd (cc)
  refused-by fault (Some found) e =
      let is : fault ≡ found.1 = cc in
      rw is refl

  pub step_refused : (fault : BeginFault) → Err fault ≡ tx_begun (begin me (epoch_of facts) facts volatile.manager parts)
      → begin_step (here cluster me facts) volatile parts ≡ answering volatile (Answer.Refused (key_refused facts parts) fault)
  step_refused fault e = refused-by fault (begin_fault facts volatile.manager parts) e

  pub refused_gives : (fault : BeginFault) → GivesUnless begin_memory (Err fault) (tx_begun (begin me (epoch_of facts) facts volatile.manager parts))
      → GivesUnless is_step_memory (refused_given (key_refused facts parts) fault) (step_result (Ok (begin_step (here cluster me facts) volatile parts)))
  refused_gives (BeginFault.Stale token) e = rw (step_refused (BeginFault.Stale token) e) refl
  refused_gives (BeginFault.Unseen version) e = rw (step_refused (BeginFault.Unseen version) e) refl
  refused_gives BeginFault.NoItem e = rw (step_refused BeginFault.NoItem e) refl
  refused_gives BeginFault.Sequence e = rw (step_refused BeginFault.Sequence e) refl
  refused_gives BeginFault.Busy e = rw (step_refused BeginFault.Busy e) refl
  refused_gives BeginFault.Memory e = tt

  pub refused_leaves : {S : Type 0} (stands : S → List Fact → Type 0) (node : Node S) (fault : BeginFault)
      → GivesUnless begin_memory (Err fault) (tx_begun (begin me (epoch_of facts) facts volatile.manager parts))
      → RepresentsCentre stands node cluster me facts volatile
      → UnlessMemory (refused_given (key_refused facts parts) fault) (RepresentsAfter stands node cluster me facts volatile (Ok (begin_step (here cluster me facts) volatile parts)))
  refused_leaves stands node (BeginFault.Stale token) e h = rw (step_refused (BeginFault.Stale token) e) h
  refused_leaves stands node (BeginFault.Unseen version) e h = rw (step_refused (BeginFault.Unseen version) e) h
  refused_leaves stands node BeginFault.NoItem e h = rw (step_refused BeginFault.NoItem e) h
  refused_leaves stands node BeginFault.Sequence e h = rw (step_refused BeginFault.Sequence e) h
  refused_leaves stands node BeginFault.Busy e h = rw (step_refused BeginFault.Busy e) h
  refused_leaves stands node BeginFault.Memory e h = tt
