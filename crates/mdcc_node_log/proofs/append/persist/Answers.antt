use Rattle.std.proofs.Common.{◌++◌, ◌∙◌, List, OnOk, append-nil, ap, inl, subst, sym, ℕ}
use Rattle.mdcc_node_log.proofs.Persisted.{none-are, some-are, spelled-more, spelled-none}
use Rattle.mdcc_node_log.proofs.append.persist.Goals as goal
use Rattle.mdcc_log.proofs.Groups.{rest_reads, unwritten, unwritten_other}
use Rattle.mdcc_log.specs.AtRest.{IsAtRest}
use Rattle.mdcc_log.specs.Groups.{with_payloads}
use Rattle.mdcc_def_messages.specs.Spelling.{encodings_of}

-- there are some
pub append_all-requires-clause-some : goal.append_all-requires-clause-some
append_all-requires-clause-some g c = some-are _ _ c.is_empty.ensures c.if-is_empty.false

pub returns-clause-logged : goal.returns-clause-logged
returns-clause-logged g c facts more told told_other rest are =
    subst (λ (ps : List (List ℕ)). OnOk c.append_all.result (IsAtRest g.D.Disks.disk g.D.Disks.may_leave c.append_all.new.disks c.append_all.new.self ps)) (spelled-more facts more c.args.payloads.now are)
    (c.append_all.ensures.acknowledged (encodings_of facts) told told_other rest)

-- nothing is done
pub returns-then-is_empty-clause-logged : goal.returns-then-is_empty-clause-logged
returns-then-is_empty-clause-logged g c facts more told told_other rest are =
    subst (λ (ps : List (List ℕ)). IsAtRest g.D.Disks.disk g.D.Disks.may_leave c.args.disks.now c.args.log.now ps)
    (spelled-none facts more c.args.payloads.now (none-are c.args.payloads.now _ c.is_empty.ensures c.if-is_empty.true) are) rest

pub returns-then-is_empty-clause-acknowledged : goal.returns-then-is_empty-clause-acknowledged
returns-then-is_empty-clause-acknowledged g c all told told_other rest =
    subst (λ (ps : List (List ℕ)). IsAtRest g.D.Disks.disk g.D.Disks.may_leave c.args.disks.now c.args.log.now ps)
    (sym (append-nil all) ∙ ap (λ (ps : List (List ℕ)). all ++ ps) (sym (none-are c.args.payloads.now _ c.is_empty.ensures c.if-is_empty.true))) rest

pub returns-then-is_empty-clause-any_moment : goal.returns-then-is_empty-clause-any_moment
returns-then-is_empty-clause-any_moment g c log told there uses = unwritten g.D.Disks.disk g.D.Disks.may_leave g.D.Disks.moment g.D.Disks.left_since g.met.D.Disks.only_now c.args.disks.now c.args.log.now log c.args.payloads.now uses

pub returns-then-is_empty-clause-any_moment_other : goal.returns-then-is_empty-clause-any_moment_other
returns-then-is_empty-clause-any_moment_other g c log told there uses spare = unwritten_other g.D.Disks.disk g.D.Disks.may_leave g.D.Disks.moment g.D.Disks.left_since g.met.D.Disks.only_now c.args.disks.now c.args.log.now (with_payloads log c.args.payloads.now) uses.generation spare

pub returns-then-is_empty-clause-any_moment_reads : goal.returns-then-is_empty-clause-any_moment_reads
returns-then-is_empty-clause-any_moment_reads g c all current spare told told_other rest left left_other =
    inl (rest_reads g.D.Disks.disk g.D.Disks.may_leave g.D.Disks.moment g.D.Disks.left_since g.met.D.Disks.only_now c.args.disks.now c.args.log.now all rest current spare left left_other)
