-- What holds of an answer, weakened.
use Rattle.std.proofs.Common.{Result, Ok, Err, OnOk, IfOk}

pub on_ok : {T E : Type 0} (P Q : Type 0) (result : Result T E) → (P → Q) → OnOk result P → OnOk result Q
on_ok P Q (Ok x) from has = from has
on_ok P Q (Err e) from has = tt

pub if_ok : {T E : Type 0} (P Q : T → Type 0) (result : Result T E) → ((x : T) → P x → Q x) → IfOk result P → IfOk result Q
if_ok P Q (Ok x) from has = from x has
if_ok P Q (Err e) from has = tt

-- what holds of an answer under a premise
pub on_ok_under : {T E : Type 0} (A X : Type 0) (result : Result T E) → (A → OnOk result X) → OnOk result (A → X)
on_ok_under A X (Ok x) has = has
on_ok_under A X (Err e) has = tt

pub if_ok_four : {T E : Type 0} (P Q : T → Type 0) (A B C D : Type 0) (result : Result T E) → IfOk result P → OnOk result A → OnOk result B → OnOk result C → OnOk result D → ((x : T) → P x → A → B → C → D → Q x) → IfOk result Q
if_ok_four P Q A B C D (Ok x) has a b c d from = from x has a b c d
if_ok_four P Q A B C D (Err e) has a b c d from = tt

pub on_ok_three : {T E : Type 0} (A B C Q : Type 0) (result : Result T E) → OnOk result A → OnOk result B → OnOk result C → (A → B → C → Q) → OnOk result Q
on_ok_three A B C Q (Ok x) a b c from = from a b c
on_ok_three A B C Q (Err e) a b c from = tt
