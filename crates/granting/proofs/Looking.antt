-- The saves in the way, sheet by sheet of a block.
use Prim.Native.Nat.{ℕ, ◌+◌, ◌*◌, ◌^◌, ◌<◌}
use mathlib.Core.Path.{◌≡◌, sym, ◌∙◌, subst}
use mathlib.Core.Bool.{Bool, ◌&&◌, ◌||◌, cond}
use mathlib.Core.Logic.{◌≢◌}
use mathlib.Core.List.{List}
use native.Mathlib.Omega.{arith}
use lib.ListN.{length, get_or}
use Rattle.rules.specs.Table.{any}
use Rattle.rules.proofs.Table.{below?, clash, any_fails, any_cong, any_more}
use Rattle.sets.specs.Bit.{bit, low, Rest, word, stride, blocks}
use Rattle.sets.specs.Loop.{Over, done}
use Rattle.sets.proofs.Bits.{bit_none}
use Rattle.sets.proofs.Loops.{over_first, low_small, low_in, over_on, done_here, done_now, done_same, done_none, done_all}
use Rattle.state.specs.View.{CLAIM, CLAIM_X, QUEUE, rows}
use Rattle.granting.specs.Granting.{Fits, way, in_ways}

-- `all` are those in the way at the sheets that are done
pub record Going (s q : List ℕ) (t j all left : ℕ) : Type 0 where
  pub over : Over (word s (CLAIM + t) j) left
  pub ways : (u : ℕ) → bit all u ≡ any 64 (λ i. done (word s (CLAIM + t) j) left i && bit (way s q t j i) u)

pub going_first : (s q : List ℕ) (t j : ℕ) {x : ℕ} → x ≡ word s (CLAIM + t) j → x < 2 ^ 64 → Going s q t j 0 x
going_first s q t j {x} e l = record {
  over = subst (λ (y : ℕ). Over y x) e (over_first x l);
  ways = λ u. bit_none u ∙ sym (any_fails 64 (λ i. done (word s (CLAIM + t) j) x i && bit (way s q t j i) u) (λ i _. rw (e, done_none (word s (CLAIM + t) j) i)));
}

pub going_end : {s q : List ℕ} {t j all left : ℕ} → Going s q t j all left → left ≡ 0 → (u : ℕ) → bit all u ≡ in_ways s q t j u
unfolding in_ways
going_end {s} {q} {t} {j} g e u = g.ways u ∙ any_cong 64 _ _ (λ i _. rw (e, done_all (word s (CLAIM + t) j) i))

-- word j of row i is there
pub row_word : {m t : ℕ} {s q : List ℕ} → Fits m t s q → {j : ℕ} → j < blocks m → (r : ℕ) → r + 32 < rows → (r + t < rows) × (r + t + stride * j < length s)
row_word f h r l = let a = f.save in let b = f.sets in (omega arith, omega arith)

-- one sheet more, by the code's own name
module _ {s q : List ℕ} {t j all left : ℕ} (g : Going s q t j all left) (some : left ≢ 0) {i : ℕ} (ei : i ≡ low left) where
  abbrev claimed : ℕ
  claimed = word s (CLAIM + t) j

  pub digit : i < 64
  digit = rw ei (low_small g.over some)

  -- it is one of m
  pub inside : {m : ℕ} → Fits m t s q × (j < blocks m) → 64 * j + i < m
  inside {m} f = below? (64 * j + i) m (λ l. l)
      (λ l. clash (bit claimed i) (rw ei (low_in g.over some)) (f.0.ends (CLAIM + t) j i (let a = f.0.save in omega arith) f.1 digit l))

  pub going_on : {xs w all₁ r : ℕ} {x : Bool} → xs ≡ word s (CLAIM_X + t) j → x ≡ bit xs i
      → w ≡ cond x (get_or q (QUEUE + 2 * (64 * j + i)) 0) (get_or q (QUEUE + 2 * (64 * j + i) + 1) 0)
      → ((u : ℕ) → bit all₁ u ≡ (bit all u || bit w u)) → Rest left r → Going s q t j all₁ r
  going_on {xs} {w} {all₁} {r} {x} exs ex ew ea e = record {
    over = over_on g.over some e;
    ways = λ u. ea u ∙ rw (g.ways u, here) (sym (any_more 64 (λ k. done claimed left k && bit (way s q t j k) u) (λ k. done claimed r k && bit (way s q t j k) u) (low left)
        (low_small g.over some)
        (λ k d. rw (done_same g.over some e k d))
        (λ y. clash (done claimed left (low left) && bit (way s q t j (low left)) u) y (rw (done_here g.over some)))
        ∙ rw (done_now g.over some e)));
  }
    where
      here : w ≡ way s q t j (low left)
      here = ew ∙ rw (ex, exs, ei)
