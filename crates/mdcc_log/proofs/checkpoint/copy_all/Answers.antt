use Rattle.std.proofs.Common.{◌≡◌, ◌+◌, ◌-◌, ◌++◌, List, ℕ, length, IsTrue, sym, ◌∙◌, ap, subst}
use Rattle.mdcc_disks.specs.Disks.{DiskCall}
use Rattle.mdcc_log_file.specs.Calls.{MadeSome, with_calls}
use Rattle.mdcc_log_file.specs.Area.{payloads_of, records_of, records_bytes}
use Rattle.mdcc_log_file.specs.Copying.{IsSource, record_calls}
use Rattle.mdcc_log_file.proofs.Copies.{calls_split}
use Rattle.mdcc_log_file.proofs.Calls.{made_both, made_first}
use Rattle.mdcc_log_file.proofs.ReadCalls.{all_where}
use Rattle.mdcc_log_file.proofs.Joined.{read_joined, shut_joined, but_joined}
use Rattle.mdcc_log.proofs.Outcomes.{on_ok, if_ok}
use Rattle.mdcc_log.proofs.Packs.{records_source, frames_source, size_of_all, copied_both}
use Rattle.mdcc_log.proofs.checkpoint.copy_all.Goals as goal

pub copy_records-requires-clause-source : goal.copy_records-requires-clause-source
copy_records-requires-clause-source g c told =
    let stands = c.requires.stands told in
    (records_of stands.0.head, records_source stands.1)

pub copy_records-requires-2-clause-source : goal.copy_records-requires-2-clause-source
copy_records-requires-2-clause-source g c told =
    let was : IsTrue (g.D.Disks.disk c.args.disks.now c.args.whole.place).told = sym c.copy_records.ensures.others.told_one ∙ told in
    let stands = c.requires.stands was in
    let size = c.in_ok-middle.ensures.size (records_of stands.0.head) was (records_source stands.1) in
    (stands.0.tail, subst (λ (l : List ℕ). IsSource 1 c.args.whole.start c.args.whole.end (25 + c.args.whole.body - c.in_ok-middle.middle) c.args.whole.tail stands.0.tail l) (sym c.copy_records.ensures.only_read.bytes) (frames_source stands.1 c.in_ok-middle.middle size))

pub returns-clause-copied : goal.returns-clause-copied
returns-clause-copied g c log told there stands =
    let mid = (g.D.Disks.disk c.copy_records.new.disks c.args.place).bytes in
    let old = (g.D.Disks.disk c.args.disks.now c.args.place).bytes in
    let new = (g.D.Disks.disk c.copy_records-2.new.disks c.args.place).bytes in
    let size = c.in_ok-middle.ensures.size (records_of log.head) told (records_source stands) in
    let source = subst (λ (l : List ℕ). IsSource 1 c.args.whole.start c.args.whole.end (25 + c.args.whole.body - c.in_ok-middle.middle) c.args.whole.tail log.tail l) (sym c.copy_records.ensures.only_read.bytes) (frames_source stands c.in_ok-middle.middle size) in
    on_ok (new ≡ mid ++ records_bytes log.tail) (new ≡ old ++ records_bytes (payloads_of log)) c.copy_records-2.result
    (λ second. copied_both log old mid new (c.in_ok-middle.ensures.copied (records_of log.head) told there (records_source stands)) second)
    (c.copy_records-2.ensures.copied log.tail (c.copy_records.ensures.others.told_one ∙ told) (c.copy_records.ensures.others.told_two ∙ there) source)

pub returns-clause-size : goal.returns-clause-size
returns-clause-size g c log told stands =
    let size = c.in_ok-middle.ensures.size (records_of log.head) told (records_source stands) in
    let source = subst (λ (l : List ℕ). IsSource 1 c.args.whole.start c.args.whole.end (25 + c.args.whole.body - c.in_ok-middle.middle) c.args.whole.tail log.tail l) (sym c.copy_records.ensures.only_read.bytes) (frames_source stands c.in_ok-middle.middle size) in
    if_ok (λ (end : ℕ). end ≡ c.in_ok-middle.middle + length (records_bytes log.tail)) (λ (end : ℕ). end ≡ 25 + length (records_bytes (payloads_of log))) c.copy_records-2.result
    (λ end second. size_of_all stands c.in_ok-middle.middle end size second)
    (c.copy_records-2.ensures.size log.tail (c.copy_records.ensures.others.told_one ∙ told) source)

pub returns-in_err-middle-clause-calls : goal.returns-in_err-middle-clause-calls
returns-in_err-middle-clause-calls g c log told stands =
    let rs = records_of log.head in
    subst (λ (l : List DiskCall). MadeSome l (g.D.Disks.disk c.args.disks.now c.args.place).calls (g.D.Disks.disk c.copy_records.new.disks c.args.place).calls) (sym (calls_split 25 rs log.tail))
    (made_first (record_calls 25 rs) (record_calls (25 + length (records_bytes rs)) log.tail) _ _ (c.copy_records.ensures.calls rs told (records_source stands)))

pub returns-clause-calls : goal.returns-clause-calls
returns-clause-calls g c log told stands =
    let rs = records_of log.head in
    let size = c.in_ok-middle.ensures.size rs told (records_source stands) in
    let source = subst (λ (l : List ℕ). IsSource 1 c.args.whole.start c.args.whole.end (25 + c.args.whole.body - c.in_ok-middle.middle) c.args.whole.tail log.tail l) (sym c.copy_records.ensures.only_read.bytes) (frames_source stands c.in_ok-middle.middle size) in
    subst (λ (l : List DiskCall). MadeSome l (g.D.Disks.disk c.args.disks.now c.args.place).calls (g.D.Disks.disk c.copy_records-2.new.disks c.args.place).calls)
    (ap (λ (n : ℕ). record_calls 25 rs ++ record_calls n log.tail) size ∙ sym (calls_split 25 rs log.tail))
    (made_both (record_calls 25 rs) (record_calls c.in_ok-middle.middle log.tail) _ _ _ (c.in_ok-middle.ensures.all_calls rs told (records_source stands))
    (c.copy_records-2.ensures.calls log.tail (c.copy_records.ensures.others.told_one ∙ told) source))

pub returns-clause-all_calls : goal.returns-clause-all_calls
returns-clause-all_calls g c log told stands =
    let rs = records_of log.head in
    let old = (g.D.Disks.disk c.args.disks.now c.args.place).calls in
    let new = (g.D.Disks.disk c.copy_records-2.new.disks c.args.place).calls in
    let size = c.in_ok-middle.ensures.size rs told (records_source stands) in
    let source = subst (λ (l : List ℕ). IsSource 1 c.args.whole.start c.args.whole.end (25 + c.args.whole.body - c.in_ok-middle.middle) c.args.whole.tail log.tail l) (sym c.copy_records.ensures.only_read.bytes) (frames_source stands c.in_ok-middle.middle size) in
    let is : record_calls 25 rs ++ record_calls c.in_ok-middle.middle log.tail ≡ record_calls 25 (payloads_of log) = ap (λ (n : ℕ). record_calls 25 rs ++ record_calls n log.tail) size ∙ sym (calls_split 25 rs log.tail) in
    on_ok (new ≡ with_calls (record_calls 25 rs ++ record_calls c.in_ok-middle.middle log.tail) old) (new ≡ with_calls (record_calls 25 (payloads_of log)) old) c.copy_records-2.result
    (λ all. all ∙ ap (λ (l : List DiskCall). with_calls l old) is)
    (all_where (record_calls 25 rs) (record_calls c.in_ok-middle.middle log.tail) _ _ _ c.copy_records-2.result (c.in_ok-middle.ensures.all_calls rs told (records_source stands))
    (c.copy_records-2.ensures.all_calls log.tail (c.copy_records.ensures.others.told_one ∙ told) source))

pub returns-clause-only_read : goal.returns-clause-only_read
returns-clause-only_read g c =
    read_joined g.D.Disks.disk g.D.Disks.may_leave g.D.Disks.moment g.D.Disks.left_since g.met.D.Disks.only_now c.args.disks.now c.copy_records.new.disks c.copy_records-2.new.disks c.args.whole.place c.copy_records.ensures.only_read c.copy_records-2.ensures.only_read

pub returns-clause-stays : goal.returns-clause-stays
returns-clause-stays g c =
    shut_joined g.D.Disks.disk g.D.Disks.may_leave g.D.Disks.moment g.D.Disks.left_since g.met.D.Disks.only_now c.args.disks.now c.copy_records.new.disks c.copy_records-2.new.disks c.args.place c.copy_records.ensures.stays c.copy_records-2.ensures.stays

pub returns-clause-others : goal.returns-clause-others
returns-clause-others g c =
    but_joined g.D.Disks.disk g.D.Disks.may_leave g.D.Disks.moment g.D.Disks.left_since g.met.D.Disks.only_now c.args.disks.now c.copy_records.new.disks c.copy_records-2.new.disks c.args.whole.place c.args.place c.copy_records.ensures.others c.copy_records-2.ensures.others
