-- What a message tells lasts.
use Rattle.std.proofs.Common.{ℕ, List}
use Rattle.mdcc_base.specs.AreQuorums.{AreQuorums}
use Rattle.mdcc_option.specs.declared.cluster.Cluster.{Cluster}
use Rattle.mdcc_def_ledger.specs.AllowedLedgers.{IsAllowed}
use Rattle.mdcc_def_ledger.specs.Ledger.{Entry}
use Rattle.mdcc_def_messages.specs.declared.messages.Envelope.{Envelope}
use Rattle.mdcc_def_messages.specs.declared.messages.Message.{Message}
use Rattle.mdcc_theorem_trace_states.specs.MessageMeaning.{IsBackedMessage, IsLasting, Says, TrueWhenSent}
use Rattle.mdcc_theorem_trace_states.specs.Words.{IsTail}
use Rattle.mdcc_theorem_trace_rules.proofs.Chains.{valued-tail}
use Rattle.mdcc_theorem_trace.proofs.Own.{own}
use Rattle.mdcc_theorem_trace_states.proofs.Ledgers.{Allowed-tail, is_begun-tail, mark-tail}
use Rattle.mdcc_theorem_trace_rules.proofs.Outcomes.{outcome-tail}
use Rattle.mdcc_theorem_trace_rules.proofs.Floors.{heard-tail}
use Rattle.mdcc_theorem_trace.proofs.Finished.{finished-tail}
use Rattle.mdcc_theorem_trace.proofs.Single.{one-mark}

lasts : (cluster : Cluster) → AreQuorums cluster.quorums → (old es : List Entry) (a : ℕ) (m : Message) → IsTail old es → IsAllowed cluster es → IsLasting m → Says cluster old a m → Says cluster es a m
lasts cluster sizes old es a (Message.Propose c) tail legal l h = is_begun-tail cluster old es c legal tail h
lasts cluster sizes old es a (Message.Lead c) tail legal l h = is_begun-tail cluster old es c legal tail h
lasts cluster sizes old es a (Message.Voted k v b t m) tail legal l h = mark-tail old es k v b t a m tail h
lasts cluster sizes old es a (Message.Outcome t o) tail legal l h = outcome-tail cluster sizes old es t o tail legal (one-mark cluster es sizes legal) h
lasts cluster sizes old es a (Message.Prepare k v w b) tail legal l h = h
lasts cluster sizes old es a (Message.Promise k v w b r os) tail legal l h = absurd l
lasts cluster sizes old es a (Message.Accept k v b os) tail legal l h = (h.0, valued-tail old es k v b os tail h.1)
lasts cluster sizes old es a (Message.SyncGive k v item adds) tail legal l h = absurd l
lasts cluster sizes old es a (Message.Escalate k v t cause) tail legal l h = h
lasts cluster sizes old es a (Message.Refused k v b p) tail legal l h = h
lasts cluster sizes old es a (Message.Ask t k v) tail legal l h = h
lasts cluster sizes old es a (Message.SyncAsk k) tail legal l h = tt
lasts cluster sizes old es a (Message.Mark centre era upto) tail legal l h = (h.0, heard-tail old es a centre era upto tail h.1)
lasts cluster sizes old es a (Message.Finished t) tail legal l h = finished-tail old es a t tail h
lasts cluster sizes old es a (Message.ClientRead n k) tail legal l h = h
lasts cluster sizes old es a (Message.ClientBegin n ps) tail legal l h = h
lasts cluster sizes old es a (Message.ClientAnswer n x) tail legal l h = h

pub backed-message : (cluster : Cluster) → AreQuorums cluster.quorums → (es : List Entry) → IsAllowed cluster es → (envelope : Envelope) → TrueWhenSent cluster es envelope → IsBackedMessage cluster es envelope
backed-message cluster sizes es legal envelope h = record {
  sent = h;
  still = λ l. lasts cluster sizes h.old es envelope.from envelope.message h.tail legal l h.says;
  belongs = own cluster sizes h.old envelope.from envelope.message (Allowed-tail cluster h.old es h.tail legal) h.from h.says;
}
