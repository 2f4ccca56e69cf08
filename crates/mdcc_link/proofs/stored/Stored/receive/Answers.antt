use Rattle.std.proofs.Common.{◌≡◌, ◌==◌, [], ◌∷◌, ◌++◌, List, length, take, drop, min, map, find, false, Option, Some, None, Result, Ok, ℕ, sym, ◌∙◌, ap, subst, arith, rules}
use Rattle.std.proofs.lemmas.List.{length-take}
use Rattle.std.specs.Option.{option_map}
use Rattle.mdcc_base.specs.declared.faults.Failed.{Failed}
use Rattle.mdcc_link.specs.declared.link.Received.{Received}
use Rattle.mdcc_link.specs.declared.link.Received.TheVariants.{Got, Nothing}
use Rattle.mdcc_link.specs.declared.stored.Note.{Note}
use Rattle.mdcc_link.specs.declared.stored.Noted.TheVariants as noted
use Rattle.mdcc_link.specs.declared.stored.Pending.{Pending}
use Rattle.mdcc_link.specs.Link.LinkCall.{Receive}
use Rattle.mdcc_link.specs.Memory.{first_waiting_at, without_at, without_first, found_of, part_received, waiting_after}
use Rattle.mdcc_link.specs.Stored.{LinkStore, bytes_of, waiting_in, ArePiecesWithin}
use Rattle.mdcc_link.proofs.Firsts.{none_left}
use Rattle.mdcc_link.proofs.Pieces.{pushed_within, within_found, within_without}
use Rattle.mdcc_link.proofs.Queues.{first_waiting, without_waiting}
use Rattle.mdcc_link.proofs.Storing.{store_is, calls_last, found_some, part_some, brings_some, piece_part}
use Rattle.mdcc_link.proofs.stored.Stored.receive.Goals as goal

pub invariant_of-self : goal.invariant_of-self
invariant_of-self c =
    let pool = c.self.inside.bytes.items in
    let queue = c.self.inside.queue.items in
    let piece = c.in-Some.first.piece in
    let count = c.copy_front-count.result in
    let note : Note = record { call = noted.Receive c.args.at (length c.args.into.now) (Ok (Got count)); piece = record { start = piece.start; count = count } } in
    let noted_is : c.add.new.list.items ≡ c.self.inside.notes.items ++ note ∷ [] = search rules in
    let found : find (λ (p : Pending). p.at == c.args.at) queue ≡ Some c.in-Some.first = search rules in
    let left : c.take_first.new.queue.items ≡ without_first (λ (p : Pending). p.at == c.args.at) queue = search rules in
    let counts : count ≡ min (length c.args.into.now) (length (bytes_of piece pool)) = search rules in
    let there = within_found (λ (p : Pending). p.piece) (length pool) (λ (p : Pending). p.at == c.args.at) queue c.in-Some.first c.self.invariant.waiting found in
    record {
      calls = pushed_within (λ (n : Note). n.piece) (length pool) c.self.inside.notes.items c.add.new.list.items note noted_is c.self.invariant.calls
          (omega (arith, there, counts, length-take piece.count (drop piece.start pool)));
      sent = c.self.invariant.sent;
      waiting = subst (λ (l : List Pending). ArePiecesWithin (λ (p : Pending). p.piece) (length pool) l) (sym left)
          (within_without (λ (p : Pending). p.piece) (length pool) (λ (p : Pending). p.at == c.args.at) queue c.self.invariant.waiting);
    }

pub invariant_of-self-in-None : goal.invariant_of-self-in-None
invariant_of-self-in-None c =
    let pool = c.self.inside.bytes.items in
    let queue = c.self.inside.queue.items in
    let note : Note = record { call = noted.Receive c.args.at (length c.args.into.now) (Ok Nothing); piece = record { start = 0; count = 0 } } in
    let noted_is : c.add-in-None.new.list.items ≡ c.self.inside.notes.items ++ note ∷ [] = search rules in
    let left : c.take_first.new.queue.items ≡ without_first (λ (p : Pending). p.at == c.args.at) queue = search rules in
    record {
      calls = pushed_within (λ (n : Note). n.piece) (length pool) c.self.inside.notes.items c.add-in-None.new.list.items note noted_is c.self.invariant.calls (omega arith);
      sent = c.self.invariant.sent;
      waiting = subst (λ (l : List Pending). ArePiecesWithin (λ (p : Pending). p.piece) (length pool) l) (sym left)
          (within_without (λ (p : Pending). p.piece) (length pool) (λ (p : Pending). p.at == c.args.at) queue c.self.invariant.waiting);
    }

pub returns-in-Some-clause-answer : goal.returns-in-Some-clause-answer
returns-in-Some-clause-answer c =
    let pool = c.self.inside.bytes.items in
    let queue = c.self.inside.queue.items in
    let piece = c.in-Some.first.piece in
    let found : find (λ (p : Pending). p.at == c.args.at) queue ≡ Some c.in-Some.first = search rules in
    let counts : c.copy_front-count.result ≡ min (length c.args.into.now) (length (bytes_of piece pool)) = search rules in
    let first : first_waiting_at c.args.at c.args.self.now.waiting ≡ Some (bytes_of piece pool) =
    sym (ap (λ (s : LinkStore). first_waiting_at c.args.at s.waiting) c.self.view_is) ∙ first_waiting c.args.at pool queue ∙ ap (λ (o : Option Pending). option_map (λ p. bytes_of p.piece pool) o) found in
    found_some (length c.args.into.now) c.copy_front-count.result (first_waiting_at c.args.at c.args.self.now.waiting) (bytes_of piece pool) first counts

pub returns-in-Some-clause-buffer : goal.returns-in-Some-clause-buffer
returns-in-Some-clause-buffer c =
    let pool = c.self.inside.bytes.items in
    let queue = c.self.inside.queue.items in
    let piece = c.in-Some.first.piece in
    let found : find (λ (p : Pending). p.at == c.args.at) queue ≡ Some c.in-Some.first = search rules in
    let counts : c.copy_front-count.result ≡ min (length c.args.into.now) (length (bytes_of piece pool)) = search rules in
    let buffer : c.copy_front-count.new.into ≡ take c.copy_front-count.result (bytes_of piece pool) ++ drop c.copy_front-count.result c.args.into.now = search rules in
    let first : first_waiting_at c.args.at c.args.self.now.waiting ≡ Some (bytes_of piece pool) =
    sym (ap (λ (s : LinkStore). first_waiting_at c.args.at s.waiting) c.self.view_is) ∙ first_waiting c.args.at pool queue ∙ ap (λ (o : Option Pending). option_map (λ p. bytes_of p.piece pool) o) found in
    brings_some (length c.args.into.now) c.copy_front-count.result (first_waiting_at c.args.at c.args.self.now.waiting) (bytes_of piece pool) c.args.into.now c.copy_front-count.new.into first counts buffer

pub returns-in-Some-clause-store : goal.returns-in-Some-clause-store
returns-in-Some-clause-store c =
    let pool = c.self.inside.bytes.items in
    let queue = c.self.inside.queue.items in
    let piece = c.in-Some.first.piece in
    let count = c.copy_front-count.result in
    let size = length c.args.into.now in
    let now = c.args.self.now in
    let note : Note = record { call = noted.Receive c.args.at size (Ok (Got count)); piece = record { start = piece.start; count = count } } in
    let noted_is : c.add.new.list.items ≡ c.self.inside.notes.items ++ note ∷ [] = search rules in
    let found : find (λ (p : Pending). p.at == c.args.at) queue ≡ Some c.in-Some.first = search rules in
    let left : c.take_first.new.queue.items ≡ without_first (λ (p : Pending). p.at == c.args.at) queue = search rules in
    let counts : count ≡ min size (length (bytes_of piece pool)) = search rules in
    let first : first_waiting_at c.args.at now.waiting ≡ Some (bytes_of piece pool) =
    sym (ap (λ (s : LinkStore). first_waiting_at c.args.at s.waiting) c.self.view_is) ∙ first_waiting c.args.at pool queue ∙ ap (λ (o : Option Pending). option_map (λ p. bytes_of p.piece pool) o) found in
    let answer = found_some size count (first_waiting_at c.args.at now.waiting) (bytes_of piece pool) first counts in
    let part = part_received false size (first_waiting_at c.args.at now.waiting) in
    store_is _ _ _ _ _ _ _ _ _ _
    (calls_last c.self.inside.notes.items c.add.new.list.items note pool now.calls (Receive c.args.at size (found_of false size (first_waiting_at c.args.at now.waiting)) part) (ap (λ (s : LinkStore). s.calls) c.self.view_is) noted_is
    (ap (λ (b : List ℕ). Receive c.args.at size (Ok (Got count)) b) (piece_part piece pool count (omega (arith, counts)) ∙ part_some size count (first_waiting_at c.args.at now.waiting) (bytes_of piece pool) first counts)
    ∙ ap (λ (r : Result Received Failed). Receive c.args.at size r part) answer))
    (ap (λ (s : LinkStore). s.bound) c.self.view_is)
    (ap (λ (s : LinkStore). s.sent) c.self.view_is)
    (ap (λ (l : List Pending). map (waiting_in pool) l) left
    ∙ sym (without_waiting c.args.at pool queue)
    ∙ ap (λ (s : LinkStore). without_at c.args.at s.waiting) c.self.view_is
    ∙ ap (λ (r : Result Received Failed). waiting_after (Receive c.args.at size r part) now.bound now.waiting) answer)

pub returns-in-None-clause-answer : goal.returns-in-None-clause-answer
returns-in-None-clause-answer c =
    let pool = c.self.inside.bytes.items in
    let queue = c.self.inside.queue.items in
    let found : find (λ (p : Pending). p.at == c.args.at) queue ≡ None = search rules in
    let first : first_waiting_at c.args.at c.args.self.now.waiting ≡ None =
    sym (ap (λ (s : LinkStore). first_waiting_at c.args.at s.waiting) c.self.view_is) ∙ first_waiting c.args.at pool queue ∙ ap (λ (o : Option Pending). option_map (λ p. bytes_of p.piece pool) o) found in
    sym (ap (λ (o : Option (List ℕ)). found_of false (length c.args.into.now) o) first)

pub returns-in-None-clause-buffer : goal.returns-in-None-clause-buffer
returns-in-None-clause-buffer c =
    let pool = c.self.inside.bytes.items in
    let queue = c.self.inside.queue.items in
    let found : find (λ (p : Pending). p.at == c.args.at) queue ≡ None = search rules in
    let first : first_waiting_at c.args.at c.args.self.now.waiting ≡ None =
    sym (ap (λ (s : LinkStore). first_waiting_at c.args.at s.waiting) c.self.view_is) ∙ first_waiting c.args.at pool queue ∙ ap (λ (o : Option Pending). option_map (λ p. bytes_of p.piece pool) o) found in
    sym (ap (λ (o : Option (List ℕ)). part_received false (length c.args.into.now) o ++ drop (length (part_received false (length c.args.into.now) o)) c.args.into.now) first)

pub returns-in-None-clause-store : goal.returns-in-None-clause-store
returns-in-None-clause-store c =
    let pool = c.self.inside.bytes.items in
    let queue = c.self.inside.queue.items in
    let size = length c.args.into.now in
    let now = c.args.self.now in
    let note : Note = record { call = noted.Receive c.args.at size (Ok Nothing); piece = record { start = 0; count = 0 } } in
    let noted_is : c.add-in-None.new.list.items ≡ c.self.inside.notes.items ++ note ∷ [] = search rules in
    let found : find (λ (p : Pending). p.at == c.args.at) queue ≡ None = search rules in
    let left : c.take_first.new.queue.items ≡ without_first (λ (p : Pending). p.at == c.args.at) queue = search rules in
    let first : first_waiting_at c.args.at now.waiting ≡ None =
    sym (ap (λ (s : LinkStore). first_waiting_at c.args.at s.waiting) c.self.view_is) ∙ first_waiting c.args.at pool queue ∙ ap (λ (o : Option Pending). option_map (λ p. bytes_of p.piece pool) o) found in
    let call = Receive c.args.at size (found_of false size (first_waiting_at c.args.at now.waiting)) (part_received false size (first_waiting_at c.args.at now.waiting)) in
    store_is _ _ _ _ _ _ _ _ _ _
    (calls_last c.self.inside.notes.items c.add-in-None.new.list.items note pool now.calls call (ap (λ (s : LinkStore). s.calls) c.self.view_is) noted_is
    (sym (ap (λ (o : Option (List ℕ)). Receive c.args.at size (found_of false size o) (part_received false size o)) first)))
    (ap (λ (s : LinkStore). s.bound) c.self.view_is)
    (ap (λ (s : LinkStore). s.sent) c.self.view_is)
    (ap (λ (l : List Pending). map (waiting_in pool) l) (left ∙ none_left (λ (p : Pending). p.at == c.args.at) queue found)
    ∙ ap (λ (s : LinkStore). s.waiting) c.self.view_is
    ∙ sym (ap (λ (o : Option (List ℕ)). waiting_after (Receive c.args.at size (found_of false size o) (part_received false size o)) now.bound now.waiting) first))
