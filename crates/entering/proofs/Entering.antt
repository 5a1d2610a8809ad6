-- Entries added: at one sheet, at a block's sheets, at all.
use Prim.Native.Nat.{ℕ, ◌+◌, ◌*◌, ◌/◌, ◌%◌, ◌^◌, ◌≤◌, ◌<◌}
use mathlib.Core.Path.{◌≡◌, refl, sym, ap, ◌∙◌, fun_ext}
use mathlib.Core.Bool.{Bool, true, false, ◌&&◌, ◌||◌, or-false, and-true, and-false}
use mathlib.Core.Logic.{◌≢◌}
use mathlib.Core.List.{List}
use native.Mathlib.Omega.{arith}
use lib.ListN.{length, get_or, set, length-set}
use lib.Seq.{get_or-set_same, get_or-set_other}
use lib.Dec.{eqb}
use borrow.Author.Tests.{eq-eqb, ne_eqb}
use Rattle.rules.specs.Table.{any}
use Rattle.rules.proofs.Table.{same?}
use Rattle.sets.specs.Bit.{bit, low, Rest}
use Rattle.sets.specs.Loop.{Over, done, of_block, Inside}
use Rattle.sets.proofs.Bits.{bit_none}
use Rattle.sets.proofs.Loops.{over_first, done_here, over_on, done_now, done_same, done_none, done_all, at_digit, not_yet, one_more, done_more}
use Rattle.state.specs.View.{QUEUE}
use Rattle.entering.specs.Enter.{Entered, is_behind, late}

-- ---- One sheet

module _ (q : List ℕ) (k t : ℕ) (long : QUEUE + 2 * k + 1 < length q) (v y : ℕ) (x : Bool) (ev : (u : ℕ) → bit v u ≡ (bit (get_or q (QUEUE + 2 * k) 0) u || eqb u t))
    (ey : (u : ℕ) → bit y u ≡ (bit (get_or q (QUEUE + 2 * k + 1) 0) u || (x && eqb u t))) where
  abbrev q₁ : List ℕ
  q₁ = set q (QUEUE + 2 * k) v

  abbrev q₂ : List ℕ
  q₂ = set q₁ (QUEUE + 2 * k + 1) y

  long₁ : QUEUE + 2 * k + 1 < length q₁
  long₁ = rw (length-set q (QUEUE + 2 * k) v) long

  elsewhere : (i : ℕ) → i ≢ QUEUE + 2 * k → i ≢ QUEUE + 2 * k + 1 → get_or q₂ i 0 ≡ get_or q i 0
  elsewhere i d e = get_or-set_other q₁ (QUEUE + 2 * k + 1) i y 0 e ∙ get_or-set_other q (QUEUE + 2 * k) i v 0 d

  pub enter_one : (m : ℕ) → Entered m t (λ i. eqb i k) (λ i. eqb i k && x) q q₂
  enter_one m = record {
    long = length-set q₁ (QUEUE + 2 * k + 1) y ∙ length-set q (QUEUE + 2 * k) v;
    queue = λ i u h. same? i k
        (λ e. rw (e, get_or-set_other q₁ (QUEUE + 2 * k + 1) (QUEUE + 2 * k) y 0 (λ z. omega arith), get_or-set_same q (QUEUE + 2 * k) v 0 (omega arith), eq-eqb k k refl) (ev u))
        (λ d. rw (elsewhere (QUEUE + 2 * i) (λ z. d (omega arith)) (λ z. omega arith), ne_eqb i k d) (sym (or-false (bit (get_or q (QUEUE + 2 * i) 0) u))));
    queue_x = λ i u h. same? i k
        (λ e. rw (e, get_or-set_same q₁ (QUEUE + 2 * k + 1) y 0 long₁, eq-eqb k k refl) (ey u))
        (λ d. rw (elsewhere (QUEUE + 2 * i + 1) (λ z. omega arith) (λ z. d (omega arith)), ne_eqb i k d) (sym (or-false (bit (get_or q (QUEUE + 2 * i + 1) 0) u))));
    rest = λ i h. elsewhere i (λ z. omega arith) (λ z. omega arith);
  }

-- ---- None, and some and others

either_and : (b h k e : Bool) → ((b || (h && e)) || (k && e)) ≡ (b || ((h || k) && e))
either_and true h k e = refl
either_and false true k true = refl
either_and false true true false = refl
either_and false true false false = refl
either_and false false k e = refl

module _ {m t : ℕ} where
  pub enter_none : {h x : ℕ → Bool} (q : List ℕ) → ((k : ℕ) → k < m → h k ≡ false) → ((k : ℕ) → k < m → x k ≡ false) → Entered m t h x q q
  enter_none q a b = record {
    long = refl;
    queue = λ k u l. rw (a k l) (sym (or-false (bit (get_or q (QUEUE + 2 * k) 0) u)));
    queue_x = λ k u l. rw (b k l) (sym (or-false (bit (get_or q (QUEUE + 2 * k + 1) 0) u)));
    rest = λ i l. refl;
  }

  pub enter_both : {h x h₁ x₁ h₂ x₂ : ℕ → Bool} {q q₁ q₂ : List ℕ} → Entered m t h₁ x₁ q q₁ → Entered m t h₂ x₂ q₁ q₂
      → ((k : ℕ) → k < m → h k ≡ (h₁ k || h₂ k)) → ((k : ℕ) → k < m → x k ≡ (x₁ k || x₂ k)) → Entered m t h x q q₂
  enter_both {h} {x} {h₁} {x₁} {h₂} {x₂} {q} a b e f = record {
    long = b.long ∙ a.long;
    queue = λ k u l. rw (b.queue k u l, a.queue k u l, e k l) (either_and (bit (get_or q (QUEUE + 2 * k) 0) u) (h₁ k) (h₂ k) (eqb u t));
    queue_x = λ k u l. rw (b.queue_x k u l, a.queue_x k u l, f k l) (either_and (bit (get_or q (QUEUE + 2 * k + 1) 0) u) (x₁ k) (x₂ k) (eqb u t));
    rest = λ i l. b.rest i l ∙ a.rest i l;
  }

  -- where there is no new X, the queue holds one as it did
  pub held_same : {h x : ℕ → Bool} {q q₁ : List ℕ} → Entered m t h x q q₁ → (k : ℕ) → k < m → x k ≡ false
      → any 64 (bit (get_or q₁ (QUEUE + 2 * k + 1) 0)) ≡ any 64 (bit (get_or q (QUEUE + 2 * k + 1) 0))
  held_same {q = q} {q₁ = q₁} a k l e = ap (any 64) (fun_ext (λ u. a.queue_x k u l ∙ rw e (or-false (bit (get_or q (QUEUE + 2 * k + 1) 0) u))))

-- ---- A block's sheets, one by one

-- the loop: what is done of block j is entered, and its sheets that fail are in `fails`
pub record Going (m t j ours xs copied : ℕ) (seen w q₀ q : List ℕ) (fails left : ℕ) : Type 0 where
  pub over : Over ours left
  pub entered : Entered m t (of_block j (done ours left)) (of_block j (λ i. done ours left i && bit xs i)) q₀ q
  pub failed : (i : ℕ) → bit fails i ≡ (done ours left i && late m q₀ seen w t (bit copied i) (64 * j + i))

module _ {m t j ours xs copied : ℕ} {seen w : List ℕ} where
  pub going_first : (q : List ℕ) → ours < 2 ^ 64 → Going m t j ours xs copied seen w q q 0 ours
  going_first q s = record {
    over = over_first ours s;
    entered = enter_none q (λ k l. rw (done_none ours (k % 64)) (and-false (eqb (k / 64) j))) (λ k l. rw (done_none ours (k % 64)) (and-false (eqb (k / 64) j)));
    failed = λ i. rw (bit_none i, done_none ours i);
  }

  -- all of the block
  pub going_end : {q₀ q : List ℕ} {fails left : ℕ} → Going m t j ours xs copied seen w q₀ q fails left → left ≡ 0 → {xs' copied' : ℕ} → xs ≡ xs' → copied ≡ copied'
      → Entered m t (of_block j (bit ours)) (of_block j (λ i. bit ours i && bit xs' i)) q₀ q × ((i : ℕ) → bit fails i ≡ (bit ours i && late m q₀ seen w t (bit copied' i) (64 * j + i)))
  going_end {q₀} {q} {fails} {left} g e ex ec = rw (← ex, ← ec) (
    record {
      long = g.entered.long;
      queue = λ k u l. g.entered.queue k u l ∙ rw (e, done_all ours (k % 64));
      queue_x = λ k u l. g.entered.queue_x k u l ∙ rw (e, done_all ours (k % 64));
      rest = g.entered.rest;
    },
    λ i. g.failed i ∙ rw (e, done_all ours i),
  )

-- one sheet more, by the code's digit i and the words that it has read
module _ {m t j ours xs copied : ℕ} {seen w q₀ q : List ℕ} {fails left : ℕ} (g : Going m t j ours xs copied seen w q₀ q fails left) (some : left ≢ 0) (inside : Inside m j ours) {i : ℕ} (ei : i ≡ low left) where
  here : (i < 64) × (64 * j + i < m)
  here = at_digit g.over some j inside ei

  pub at_sheet : QUEUE + 2 * m ≤ length q₀ → QUEUE + 2 * (64 * j + i) + 1 < length q
  at_sheet h = rw g.entered.long (omega (arith, here))

  pub going_step : {r : ℕ} {q₁ : List ℕ} {c x y h : Bool} {fails₁ : ℕ} → Rest left r → c ≡ bit copied i → y ≡ is_behind m seen w t c (64 * j + i)
      → x ≡ bit xs i → Entered m t (λ k. eqb k (64 * j + i)) (λ k. eqb k (64 * j + i) && x) q q₁ → h ≡ any 64 (bit (get_or q (QUEUE + 2 * (64 * j + i) + 1) 0))
      → ((k : ℕ) → bit fails₁ k ≡ (bit fails k || ((h || y) && eqb k i))) → Going m t j ours xs copied seen w q₀ q₁ fails₁ r
  going_step {y = y} {h = h} e ec ey ex en eh eb = record {
    over = over_on g.over some e;
    entered = enter_both g.entered en
        (λ k _. done_more g.over some j e k ∙ rw (← ei))
        (λ k _. one_more g.over some j e (bit xs) k ∙ rw (← ei, ← ex));
    failed = λ k. eb k ∙ rw (g.failed k) (same? k i
        (λ z. rw (z, eq-eqb i i refl, ei, done_here g.over some, done_now g.over some e) (and-true (h || y) ∙ rw (eh, ey, held, ec, ei)))
        (λ z. rw (ne_eqb k i z, and-false (h || y), done_same g.over some e k (λ d. z (d ∙ sym ei))) (or-false _)));
  }
    where
      held : any 64 (bit (get_or q (QUEUE + 2 * (64 * j + i) + 1) 0)) ≡ any 64 (bit (get_or q₀ (QUEUE + 2 * (64 * j + i) + 1) 0))
      held = held_same g.entered (64 * j + i) here.1 (rw ei (not_yet g.over some j (bit xs)))
