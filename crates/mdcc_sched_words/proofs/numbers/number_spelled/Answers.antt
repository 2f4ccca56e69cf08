use Rattle.std.proofs.Common.{◌≡◌, ℤ, Result, Ok, Err, Option}
use Rattle.std.specs.Option.{SomeIff}
use Rattle.std.specs.Result.{OkIff, result_ok}
use Rattle.mdcc_sched_words.proofs.Numerals.{spelled_numeral, spelled_utf8}
use Rattle.mdcc_sched_words.proofs.numbers.number_spelled.Goals as goal

to_some : {E : Type 0} (P Q : Type 0) (r : Result ℤ E) (o : Option ℤ) (v : ℤ) → o ≡ result_ok r → P → OkIff r (P × Q) v → SomeIff o Q v
to_some P Q (Ok x) o v e p h = rw e (h.0.1, h.1)
to_some P Q (Err x) o v e p h = rw e (λ q. h (p, q))

pub returns-in_default : goal.returns-in_default
returns-in_default c = λ small. c.in_default.ensures.cases.0 (spelled_utf8 c.args.word.now c.requires)

pub returns : goal.returns
returns c =
    let same : c.in-Ok.text.now ≡ c.args.word.now = c.in-Ok.ensures.cases.0 in
    let parsed = rw same at c.parse.ensures.value.0 in
    to_some _ _ c.parse.result c.ok.result _ c.ok.ensures.value (spelled_numeral c.args.word.now c.requires) parsed
