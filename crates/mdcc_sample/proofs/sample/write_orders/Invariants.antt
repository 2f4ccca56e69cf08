use Rattle.std.proofs.Common.{◌≡◌, ◌++◌}
use Rattle.std.specs.String.{string_bytes}
use Rattle.mdcc_sample.specs.Texts.{orders_from}
use Rattle.mdcc_sample.proofs.sample.write_orders.Given as goal

abbrev pub invariant-loop-index : goal.invariant-loop-index
invariant-loop-index l = record {
  written : string_bytes l.text ≡ string_bytes l.initial.text ++ (orders_from l.items l.orders l.initial.generator l.index).text;
  drawn : l.generator ≡ (orders_from l.items l.orders l.initial.generator l.index).generator;
}
