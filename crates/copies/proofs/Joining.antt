-- A sheet joins a row's set.
use Prim.Native.Nat.{ℕ, ◌+◌, ◌*◌, ◌/◌, ◌%◌, ◌≤◌, ◌<◌}
use mathlib.Core.Path.{◌≡◌, refl, sym, ap, ◌∙◌}
use mathlib.Core.Bool.{true, ◌||◌, or-false, or-true}
use mathlib.Core.Logic.{◌≢◌}
use mathlib.Core.List.{List}
use native.Mathlib.Omega.{arith}
use lib.ListN.{length, get_or}
use lib.Dec.{eqb}
use borrow.Author.Tests.{eq-eqb, ne_eqb}
use Rattle.rules.specs.Table.{upd2}
use Rattle.rules.proofs.Table.{same?, below?}
use Rattle.sets.specs.Bit.{bit, word, in_row, stride}
use Rattle.state.specs.View.{member, in_set, rows}
use Rattle.state.specs.Stored.{Stored}
use Rattle.state.specs.Fit.{Ends}
use Rattle.state.proofs.Parts.{member_in, member_past, set_in, set_past, set_same}
use Rattle.state.proofs.Tables.{upd2_by}

-- sheet k is in the set of row i now, and all else is as it was
pub record Joined (m i k : ℕ) (s s' : List ℕ) : Type 0 where
  pub long : length s' ≡ length s
  pub here : member m s' i k ≡ true
  pub rest : (r y : ℕ) → r < rows → (r ≡ i → y ≡ k → ⊥) → member m s' r y ≡ member m s r y
  pub ends : Ends m s → Ends m s'

-- words of two rows stand apart
same_row : {i j r l : ℕ} → i < rows → r < rows → r + stride * l ≡ i + stride * j → (r ≡ i) × (l ≡ j)
same_row a b e = (omega arith, omega arith)

module _ {m i k : ℕ} (h : i < rows) (l : k < m) {s s' : List ℕ}
    (e : Stored (i + stride * (k / 64)) (λ c. bit (word s i (k / 64)) c || eqb c (k % 64)) s s') where
  -- a digit of a word
  digit : (r j c : ℕ) → r < rows → c < 64 → (r ≡ i → 64 * j + c ≡ k → ⊥) → bit (word s' r j) c ≡ bit (word s r j) c
  digit r j c b d n = same? (r + stride * j) (i + stride * (k / 64))
      (λ z. let w = same_row h b z in
      ap (λ (a : ℕ). bit (get_or s' a 0) c) z ∙ e.here c ∙ rw (ne_eqb c (k % 64) (λ q. n w.0 (at_k w.1 q))) (or-false (bit (word s i (k / 64)) c)) ∙ ap (λ (a : ℕ). bit (get_or s a 0) c) (sym z))
      (λ z. ap (λ (a : ℕ). bit a c) (e.rest (r + stride * j) z))
    where
      at_k : j ≡ k / 64 → c ≡ k % 64 → 64 * j + c ≡ k
      at_k a b = omega arith

  pub joined : Joined m i k s s'
  unfolding in_row
  joined = record {
    long = e.long;
    here = member_in m s' i k l ∙ e.here (k % 64) ∙ rw (eq-eqb (k % 64) (k % 64) refl) (or-true (bit (word s i (k / 64)) (k % 64)));
    rest = λ r y b n. below? y m
        (λ a. member_in m s' r y a ∙ digit r (y / 64) (y % 64) b (omega arith) (λ p q. n p (whole q)) ∙ sym (member_in m s r y a))
        (λ a. member_past m s' r y a ∙ sym (member_past m s r y a));
    ends = λ z r j c a b d f. digit r j c a d (λ p q. absurd (omega arith)) ∙ z r j c a b d f;
  }
    where
      whole : {y : ℕ} → 64 * (y / 64) + y % 64 ≡ k → y ≡ k
      whole q = omega arith

-- the sets by save
module _ {m k : ℕ} {s s' : List ℕ} (g t : ℕ) (h : t < 32) (j : Joined m (g + t) k s s') where
  pub set_joined : g + 32 ≤ rows → in_set m g s' ≡ upd2 (in_set m g s) t k true
  set_joined w = upd2_by (in_set m g s') (in_set m g s) t k true (set_in m g s' t k h ∙ j.here)
      (λ u y n. below? u 32
      (λ b. set_in m g s' u y b ∙ j.rest (g + u) y (omega arith) (λ p q. n (omega arith) q) ∙ sym (set_in m g s u y b))
      (λ b. set_past m g s' u y b ∙ sym (set_past m g s u y b)))

  pub set_beside : (g' : ℕ) → g' + 32 ≤ rows → ((u : ℕ) → u < 32 → g' + u ≢ g + t) → in_set m g' s' ≡ in_set m g' s
  set_beside g' w d = set_same m g' s s' (λ u y b. j.rest (g' + u) y (omega arith) (λ p q. d u b p))
