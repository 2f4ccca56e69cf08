use Rattle.std.proofs.Common.{◌≡◌, ◌∙◌, arith, codes, map, true}
use Rattle.std.proofs.lemmas.List.{length-map}
use Rattle.std.proofs.lemmas.Result.{IfOk-weaker}
use Rattle.std.specs.String.{string_bytes}
use Rattle.mdcc_def_language.specs.Words.{text_eq}
use Rattle.mdcc_command_words.proofs.Few.{is_ask}
use Rattle.mdcc_command_words.proofs.words.ask_in.Goals as goal

pub returns-clause-value : goal.returns-clause-value
returns-clause-value c =
    let named : text_eq (string_bytes c.args.word.now) (codes "ask") ≡ true = grind (arith, c.is_word.ensures, c.if-not-is_word.false) in
    IfOk-weaker c.ask_by.result _ _
    (λ command h. h ∙ is_ask (string_bytes c.args.word.now) (string_bytes c.args.centre.now) (string_bytes c.args.turns.now) (string_bytes c.args.serial.now) (map string_bytes c.args.words.now)
    c.short_number_in-centre.result c.turns_in.result c.short_number_in-serial.result
    c.short_number_in-centre.ensures c.turns_in.ensures.value c.short_number_in-serial.ensures named (omega (arith, length-map c.args.words.now string_bytes, c.if-words-gt16.false)))
    c.ask_by.ensures.value
