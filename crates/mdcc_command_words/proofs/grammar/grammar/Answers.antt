use Rattle.std.proofs.Common.{◌≡◌, ◌∙◌, ap, ap₂}
use Rattle.std.proofs.lemmas.Result.{IfOk-weaker}
use Rattle.clap.specs.Words.{App, Shape, app_of, with_subcommand}
use Rattle.mdcc_command_words.specs.Grammar.{ask, check, cluster, dump, node, program, replay, sample}
use Rattle.mdcc_command_words.proofs.Local.{third_test}
use Rattle.mdcc_command_words.proofs.grammar.grammar.Goals as goal

pub returns : goal.returns
returns c =
    let top : App → Shape = λ a. a.top in
    let one : app_of c.in_ok-subcommand.field-0 ≡ with_subcommand program replay.top =
    c.in_ok-subcommand.ensures.shape (third_test _ _ _ _ (ap (λ (a : App). a.top.is_plain) c.bare.ensures)) ∙ ap₂ with_subcommand c.program.ensures (ap top c.bare.ensures) in
    let two : app_of c.in_ok-subcommand-2.field-0 ≡ with_subcommand (with_subcommand program replay.top) sample.top =
    c.in_ok-subcommand-2.ensures.shape (third_test _ _ _ _ (ap (λ (a : App). a.top.is_plain) c.in_ok-sample.ensures)) ∙ ap₂ with_subcommand one (ap top c.in_ok-sample.ensures) in
    let three : app_of c.in_ok-subcommand-3.field-0 ≡ with_subcommand (with_subcommand (with_subcommand program replay.top) sample.top) node.top =
    c.in_ok-subcommand-3.ensures.shape (third_test _ _ _ _ (ap (λ (a : App). a.top.is_plain) c.in_ok-node.ensures)) ∙ ap₂ with_subcommand two (ap top c.in_ok-node.ensures) in
    let four : app_of c.in_ok-subcommand-4.field-0 ≡ with_subcommand (with_subcommand (with_subcommand (with_subcommand program replay.top) sample.top) node.top) cluster.top =
    c.in_ok-subcommand-4.ensures.shape (third_test _ _ _ _ (ap (λ (a : App). a.top.is_plain) c.in_ok-cluster.ensures)) ∙ ap₂ with_subcommand three (ap top c.in_ok-cluster.ensures) in
    let five : app_of c.in_ok-subcommand-5.field-0
    ≡ with_subcommand (with_subcommand (with_subcommand (with_subcommand (with_subcommand program replay.top) sample.top) node.top) cluster.top) ask.top =
    c.in_ok-subcommand-5.ensures.shape (third_test _ _ _ _ (ap (λ (a : App). a.top.is_plain) c.in_ok-ask.ensures)) ∙ ap₂ with_subcommand four (ap top c.in_ok-ask.ensures) in
    let six : app_of c.in_ok-subcommand-6.field-0
    ≡ with_subcommand (with_subcommand (with_subcommand (with_subcommand (with_subcommand (with_subcommand program replay.top) sample.top) node.top) cluster.top) ask.top) dump.top =
    c.in_ok-subcommand-6.ensures.shape (third_test _ _ _ _ (ap (λ (a : App). a.top.is_plain) c.in_ok-dump.ensures)) ∙ ap₂ with_subcommand five (ap top c.in_ok-dump.ensures) in
    let seven : app_of c.in_ok-subcommand-7.field-0
    ≡ with_subcommand (with_subcommand (with_subcommand (with_subcommand (with_subcommand (with_subcommand (with_subcommand program replay.top) sample.top) node.top) cluster.top) ask.top) dump.top) check.top =
    c.in_ok-subcommand-7.ensures.shape (third_test _ _ _ _ (ap (λ (a : App). a.top.is_plain) c.bare-2.ensures)) ∙ ap₂ with_subcommand six (ap top c.bare-2.ensures) in
    IfOk-weaker c.subcommand-8.result _ _
    (λ r h. h.shape (third_test _ _ _ _ (ap (λ (a : App). a.top.is_plain) c.bare-3.ensures)) ∙ ap₂ with_subcommand seven (ap top c.bare-3.ensures))
    c.subcommand-8.ensures
