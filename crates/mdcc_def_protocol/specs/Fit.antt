-- Whether a choice fits beside the live choices of its instance: by an acceptor's share of the room at the fast ballot, and exactly at a leader. The share, and the room of 64 for the number of deltas, are our own form of MDCC's quorum demarcation.
use Rattle.std.specs.List.{list_all, list_any, range_with_len}
use Rattle.std.specs.Prelude.{Bool, List, None, Option, Some, [], false, find, get_or, if◌then◌else◌, int_lt, length, map, min, nat_lt, neg_ℤ, negsuc, not, option_map, pos, sum, true, ℕ, ℤ, ◌*ℤ◌, ◌+ℤ◌, ◌++◌, ◌+◌, ◌-ℤ◌, ◌-◌, ◌^◌, ◌∷◌}
use Rattle.mdcc_base.specs.Counts.{number_of, sum_over}
use Rattle.mdcc_base.specs.Quorums.{threshold}
use Rattle.mdcc_base.specs.Sizes.{Sizes}
use Rattle.mdcc_base.specs.TxId.{tx_eq}
use Rattle.mdcc_base.specs.declared.identifiers.TxId.{TxId}
use Rattle.mdcc_option.specs.OneCopy.{amount_at}
use Rattle.mdcc_option.specs.declared.cluster.Cluster.{Cluster}
use Rattle.mdcc_option.specs.declared.cluster.FastLimit.{FastLimit}
use Rattle.mdcc_option.specs.declared.items.Item.{Item}
use Rattle.mdcc_option.specs.declared.items.Update.{Update}
use Rattle.mdcc_option.specs.declared.schema.Schema.{Schema}
use Rattle.mdcc_struct.specs.Maps.{TxMap}
use Rattle.mdcc_def_protocol.specs.Marks.{Amounts, is_write}
use Rattle.mdcc_def_protocol.specs.declared.fit.Fit.{Fit}
use Rattle.mdcc_def_protocol.specs.declared.fit.Load.{Load}

-- ---- what live choices weigh

-- a number without its sign, and 0 for what is below 0
abbrev pub above_zero : ℤ → ℕ
above_zero (pos n) = n
above_zero (negsuc n) = 0

-- how much an amount takes from an attribute
abbrev pub decrease : ℤ → ℕ
decrease amount = above_zero (neg_ℤ amount)

-- how much it adds
abbrev pub increase : ℤ → ℕ
increase amount = above_zero amount

abbrev pub amounts_in : Update → Amounts
amounts_in (Update.Write item seen) = []
amounts_in (Update.Add amounts) = amounts

abbrev pub has_tx : List TxId → TxId → Bool
has_tx txs tx = list_any (tx_eq tx) txs

-- the sum over the live choices of what each takes from an attribute, or adds to it
abbrev pub sum_at : (ℤ → ℕ) → TxMap Update → ℕ → ℤ
sum_at size live attribute = pos (sum_over (λ e. size (amount_at attribute (amounts_in e.1))) live)

-- live Writes, live transactions outside a seen set, live Adds, and for each attribute the sums of the decreases and of the increases
abbrev pub load_of : TxMap Update → List TxId → Load
load_of live seen = record {
  writes = number_of (λ e. is_write e.1) live;
  unseen = number_of (λ e. not (has_tx seen e.0)) live;
  count = number_of (λ e. not (is_write e.1)) live;
  down = map (sum_at decrease live) (1 ∷ 2 ∷ 3 ∷ 4 ∷ []);
  up = map (sum_at increase live) (1 ∷ 2 ∷ 3 ∷ 4 ∷ []);
}

abbrev pub capped_sum : ℤ → ℤ
capped_sum sum = if int_lt (pos (2 ^ 96)) sum then pos (2 ^ 96) else sum

-- what a store answers: counts stop at 2^32 - 1 and sums at 2^96. No answer of a fit depends on that
abbrev pub capped : Load → Load
capped load = record {
  writes = min load.writes (2 ^ 32 - 1);
  unseen = min load.unseen (2 ^ 32 - 1);
  count = min load.count (2 ^ 32 - 1);
  down = map capped_sum load.down;
  up = map capped_sum load.up;
}

-- ---- quantities

-- a quantity that an Add changes: its number, the sum of the live choices, the room, and the magnitude of the amount
pub record Quantity : Type 0 where
  pub number : ℕ
  pub sum : ℤ
  pub room : ℤ
  pub amount : ℤ

-- quantity 0: the number of deltas on one version
abbrev pub delta_count : Load → Quantity
delta_count load = record { number = 0; sum = pos load.count; room = pos 64; amount = pos 1 }

-- quantity n: a decrease has the room down to the lower bound, an increase the room up to the upper bound
abbrev pub quantity_of : ℕ → ℤ → ℤ × ℤ → ℤ → Load → Quantity
quantity_of attribute value bounds (pos n) load =
    record { number = attribute; sum = get_or load.up (attribute - 1) (pos 0); room = bounds.1 -ℤ value; amount = pos n }
quantity_of attribute value bounds (negsuc n) load =
    record { number = attribute; sum = get_or load.down (attribute - 1) (pos 0); room = value -ℤ bounds.0; amount = pos (n + 1) }

-- the quantity of an attribute that is named with an amount
abbrev pub quantity_at : Schema → Item → Load → ℕ × ℤ → Quantity
quantity_at schema base load (attribute, amount) =
    quantity_of attribute (get_or base.values (attribute - 1) (pos 0)) (get_or schema (attribute - 1) (pos 0, pos 0)) amount load

-- all that an Add changes, ascending
abbrev pub quantities_of : Schema → Item → Load → Amounts → List Quantity
quantities_of schema base load amounts = delta_count load ∷ map (quantity_at schema base load) amounts

-- the sum with the amount passes the room
abbrev pub is_past_room : Quantity → Bool
is_past_room q = int_lt q.room (q.sum +ℤ q.amount)

-- how many centres see to it that what they are forced to keep stays within the room: any classic quorum, or only all centres.
-- An acceptor's room is cut into as many parts
abbrev pub parts_of : FastLimit → Sizes → ℕ
parts_of FastLimit.Safe quorums = quorums.classic
parts_of FastLimit.Paper quorums = quorums.centres

-- an acceptor's share is fast + classic - centres out of classic parts, or the wider one of fast out of centres.
-- Each mark that promises force has so many votes among as many reports as there are parts, so that what they force stays within the room
abbrev pub share_of : FastLimit → Sizes → ℕ
share_of limit quorums = threshold quorums (parts_of limit quorums)

-- the sum with the amount passes an acceptor's share of the room
abbrev pub is_past_limit : FastLimit → Sizes → Quantity → Bool
is_past_limit limit quorums q = int_lt (pos (share_of limit quorums) *ℤ q.room) (pos (parts_of limit quorums) *ℤ (q.sum +ℤ q.amount))

-- what the live Adds alone take from an attribute, and what they add to it
abbrev pub decreases_at : Schema → Item → Load → ℕ → Quantity
decreases_at schema base load attribute = record {
  number = attribute;
  sum = get_or load.down (attribute - 1) (pos 0);
  room = get_or base.values (attribute - 1) (pos 0) -ℤ (get_or schema (attribute - 1) (pos 0, pos 0)).0;
  amount = pos 0;
}

abbrev pub increases_at : Schema → Item → Load → ℕ → Quantity
increases_at schema base load attribute = record {
  number = attribute;
  sum = get_or load.up (attribute - 1) (pos 0);
  room = (get_or schema (attribute - 1) (pos 0, pos 0)).1 -ℤ get_or base.values (attribute - 1) (pos 0);
  amount = pos 0;
}

-- all quantities as the live Adds alone leave them: their number, and for each attribute the decreases and the increases
abbrev pub quantities_taken : Schema → Item → Load → List Quantity
quantities_taken schema base load =
    record { number = 0; sum = pos load.count; room = pos 64; amount = pos 0 }
    ∷ map (decreases_at schema base load) (range_with_len 1 (length schema)) ++ map (increases_at schema base load) (range_with_len 1 (length schema))

-- the least quantity that passes
abbrev pub first_number : (Quantity → Bool) → List Quantity → Option ℕ
first_number test qs = option_map (λ q. q.number) (find test qs)

-- ---- fits

abbrev pub fit_in_room : Option ℕ → Fit
fit_in_room (Some number) = Fit.Breaks number
fit_in_room None = Fit.Fits

-- no Write beside what it has not seen, no Add beside a Write or without an item, and no sum past its room
abbrev pub exact_fit : Cluster → Option Item → Load → Update → Fit
exact_fit cluster base load (Update.Write item seen) = if nat_lt 0 load.unseen then Fit.Conflict else Fit.Fits
exact_fit cluster None load (Update.Add amounts) = Fit.Conflict
exact_fit cluster (Some base) load (Update.Add amounts) =
    if nat_lt 0 load.writes then Fit.Conflict
    else fit_in_room (first_number is_past_room (quantities_of cluster.schema base load amounts))

-- the least quantity past an acceptor's share
abbrev pub limit_of : Cluster → Option Item → Load → Update → Option ℕ
limit_of cluster (Some base) load (Update.Add amounts) = first_number (is_past_limit cluster.limit cluster.quorums) (quantities_of cluster.schema base load amounts)
limit_of cluster base load update = None

abbrev pub fit_in_share : Fit → Option ℕ → Fit
fit_in_share Fit.Fits (Some number) = Fit.Limit number
fit_in_share Fit.Fits None = Fit.Fits
fit_in_share fit limit = fit

-- what fits exactly may still be past the share
abbrev pub fast_fit : Cluster → Option Item → Load → Update → Fit
fast_fit cluster base load update = fit_in_share (exact_fit cluster base load update) (limit_of cluster base load update)

-- whether live Adds on an item are together within the room at each quantity; without an item there is no room
abbrev pub are_within_room : Cluster → Option Item → Load → Bool
are_within_room cluster None load = false
are_within_room cluster (Some base) load = list_all (λ q. not (is_past_room q)) (quantities_taken cluster.schema base load)

abbrev pub is_fitting : Fit → Bool
is_fitting Fit.Fits = true
is_fitting _ = false
