-- What the host reads of a list; and how many answers it can have.
use Prim.Native.Nat.{ℕ, ◌≤◌}
use mathlib.Core.Path.{◌≡◌, ap}
use mathlib.Core.List.{List, ◌++◌, map}
use native.Mathlib.Omega.{arith}
use lib.ListN.{length, take, drop}
use lib.Dec.{ltb}
use lib.Seq.{take_at}
use Rattle.rules.specs.Sizes.{max_commands}
use Rattle.rules.specs.Writing as lists
use Rattle.rules.specs.Calls as calls
use Rattle.rules.proofs.Table.{bool}
use Rattle.text.proofs.Writing.{wrote_end}
use Rattle.codes.specs.Codes.{answer_code, fitted}
use Rattle.codes.specs.Decoding.{answer_of}
use Rattle.answers.specs.Telling.{Listed}

pub few_told : {b room after : List ℕ} {m n : ℕ} → Listed b m room n after → n ≤ max_commands
few_told g = wrote_end g.listed.wrote

-- numbers that are read as answers, where they fit the room
pub all_again : {us : List calls.Reply} → map answer_of (map answer_code us) ≡ us → {o : lists.Outcome} {after : List ℕ} (room : List ℕ)
    → record { outcome = o; room = after } ≡ fitted (map answer_code us) room → (n : ℕ) → o ≡ lists.wrote n → map answer_of (take n after) ≡ us
all_again {us} a {o = o} {after = after} room e n q =
    let xs = map answer_code us in
    bool (ltb (length room) (length xs))
    (λ y.
    let r : o ≡ lists.refuse_with (lists.at (length xs) 15) = ap (λ (c : lists.Call). c.outcome) (rw y at e) in
    let z : ◌≡◌ {A = ℕ} 0 1 = cc in
    absurd (omega arith))
    (λ y.
    let r : o ≡ lists.wrote (length xs) = ap (λ (c : lists.Call). c.outcome) (rw y at e) in
    let s : after ≡ xs ++ drop (length xs) room = ap (λ (c : lists.Call). c.room) (rw y at e) in
    let l : length xs ≡ n = cc in
    rw (s, take_at xs (drop (length xs) room) n l) a)
