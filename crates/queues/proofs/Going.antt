-- From any save of a set on to one before it: the walk to the front, and what is found there.
use Prim.Native.Nat.{ℕ, ◌+◌, ◌*◌, ◌^◌, ◌≤◌, ◌<◌}
use mathlib.Core.Path.{◌≡◌, sym, ap, subst, ◌∙◌}
use mathlib.Core.Bool.{Bool, true, false, not, ◌&&◌, and-false}
use mathlib.Core.Logic.{◌≢◌}
use mathlib.Core.List.{List}
use native.Mathlib.Omega.{arith}
use lib.ListN.{length, get_or}
use lib.Dec.{ltb}
use borrow.Author.Tests.{ltb-true, ltb-false, lt-ltb, le-ltb}
use Rattle.rules.specs.Table.{any}
use Rattle.rules.proofs.Table.{bool, below?, clash, and_l, and_r, any_intro, any_fails}
use Rattle.sets.specs.Bit.{bit, low}
use Rattle.sets.specs.Loop.{Over}
use Rattle.sets.proofs.Bits.{bit_none, bits_less}
use Rattle.sets.proofs.Loops.{over_first, low_in, low_left}
use Rattle.state.specs.View.{part, queue_of, queue_x_of, BEFORE, QUEUE}
use Rattle.state.proofs.Parts.{part_in, queue_in, queue_x_in}
use Rattle.queues.specs.Front.{Ranked, Front, fronted}

-- save u is of x, and `left` are those of x before it
pub record Going (q : List ℕ) (x u left : ℕ) : Type 0 where
  pub small : left < 2 ^ 64
  pub there : bit x u ≡ true
  pub ahead : (v : ℕ) → bit left v ≡ (bit x v && bit (part BEFORE 32 q u) v)

-- some one of x is before u
abbrev met : (q : List ℕ) (x u : ℕ) → Bool
met q x u = any 64 (λ v. bit x v && bit (part BEFORE 32 q u) v)

module _ {q : List ℕ} {x : ℕ} (r : Ranked q x) where
  -- a save of x has a set of those before it
  pub save_small : (u : ℕ) → bit x u ≡ true → QUEUE ≤ length q → (u < 32) × (BEFORE + u < length q)
  save_small u e l = let z = r.small u e in (z, omega arith)

  -- that set as the code reads it
  pub read_before : (u : ℕ) → bit x u ≡ true → get_or q (BEFORE + u) 0 ≡ part BEFORE 32 q u
  read_before u e = sym (part_in BEFORE 32 q u (r.small u e))

  -- none is before itself
  not_self : (u : ℕ) → bit x u ≡ true → bit (part BEFORE 32 q u) u ≡ false
  not_self u e = rw (r.before u u e e) (le-ltb (r.rank u) (r.rank u) (omega arith))

  module _ {u : ℕ} (eu : u ≡ low x) where
    first_in : x < 2 ^ 64 → x ≢ 0 → bit x u ≡ true
    first_in h d = rw eu (low_in (over_first x h) d)

    pub first_small : x < 2 ^ 64 → x ≢ 0 → QUEUE ≤ length q → (u < 32) × (BEFORE + u < length q)
    first_small h d l = save_small u (first_in h d) l

    pub going_first : {left : ℕ} → x < 2 ^ 64 → x ≢ 0 → left < 2 ^ 64 → ((v : ℕ) → bit left v ≡ (bit x v && bit (get_or q (BEFORE + u) 0) v)) → Going q x u left
    going_first h d s e = record { small = s; there = first_in h d; ahead = λ v. e v ∙ ap (λ (a : ℕ). bit x v && bit a v) (read_before u (first_in h d)) }

  module _ {u left : ℕ} (g : Going q x u left) where
    over : Over x left
    over = record { small = g.small; within = λ k e. and_l (bit x k) (bit (part BEFORE 32 q u) k) (sym (g.ahead k) ∙ e) }

    pub going_end : left ≡ 0 → Front q x u
    going_end e = record { there = g.there; none = λ v b. sym (rw (e, bit_none v, b) at (g.ahead v)) }

    module _ (some : left ≢ 0) {n : ℕ} (en : n ≡ low left) where
      next_in : bit x n ≡ true
      next_in = rw en (low_in over some)

      next_left : bit left n ≡ true
      next_left = rw en (low_left over some)

      pub next_small : QUEUE ≤ length q → (n < 32) × (BEFORE + n < length q)
      next_small l = save_small n next_in l

      -- it is before u
      nearer : r.rank n < r.rank u
      nearer = ltb-true (r.rank n) (r.rank u) (sym (r.before u n g.there next_in) ∙ and_r (bit x n) (bit (part BEFORE 32 q u) n) (sym (g.ahead n) ∙ next_left))

      module _ {l : ℕ} (s : l < 2 ^ 64) (e : (v : ℕ) → bit l v ≡ (bit left v && bit (get_or q (BEFORE + n) 0) v)) where
        now_left : (v : ℕ) → bit l v ≡ (bit left v && bit (part BEFORE 32 q n) v)
        now_left v = e v ∙ ap (λ (a : ℕ). bit left v && bit a v) (read_before n next_in)

        pub going_less : l < left
        going_less = bits_less l left s g.small (λ k y. and_l (bit left k) (bit (part BEFORE 32 q n) k) (sym (now_left k) ∙ y)) n
            (now_left n ∙ ap (λ (b : Bool). bit left n && b) (not_self n next_in) ∙ and-false (bit left n)) next_left

        pub going_on : Going q x n l
        going_on = record {
          small = s;
          there = next_in;
          ahead = λ v. now_left v ∙ bool (bit x v)
              (λ y. rw (g.ahead v, y, r.before u v g.there y, r.before n v next_in y) (both v))
              (λ y. rw (g.ahead v, y));
        }
          where
            both : (v : ℕ) → (ltb (r.rank v) (r.rank u) && ltb (r.rank v) (r.rank n)) ≡ ltb (r.rank v) (r.rank n)
            both v = below? (r.rank v) (r.rank n)
                (λ h. rw (lt-ltb (r.rank v) (r.rank u) (let z = nearer in omega arith)))
                (λ h. rw (le-ltb (r.rank v) (r.rank n) h) (and-false (ltb (r.rank v) (r.rank u))))

  -- ---- The front one is of y

  module _ {u : ℕ} (f : Front q x u) where
    pub front_save : u < 64
    front_save = let z = r.small u f.there in omega arith

    -- another one has the front one before it
    behind : (w : ℕ) → bit x w ≡ true → w ≢ u → met q x w ≡ true
    behind w b d = any_intro 64 (λ v. bit x v && bit (part BEFORE 32 q w) v) u front_save
        (rw (f.there, r.before w u b f.there) (lt-ltb (r.rank u) (r.rank w) (later
        (ltb-false (r.rank w) (r.rank u) (sym (r.before u w f.there b) ∙ f.none w b))
        (λ e. d (sym (r.apart u w f.there b e))))))
      where
        later : {i j : ℕ} → i ≤ j → i ≢ j → i < j
        later l n = omega arith

    alone : met q x u ≡ false
    alone = any_fails 64 (λ v. bit x v && bit (part BEFORE 32 q u) v) (λ v _. bool (bit x v) (λ b. rw (b, f.none v b)) (λ b. rw b))

    pub front_has : (y : ℕ) → ((w : ℕ) → bit y w ≡ true → bit x w ≡ true) → bit y u ≡ fronted q x y
    unfolding fronted
    front_has y within = bool (bit y u)
        (λ e. e ∙ sym (any_intro 64 (λ w. bit y w && not (met q x w)) u front_save (rw (e, alone))))
        (λ e. e ∙ sym (any_fails 64 (λ w. bit y w && not (met q x w)) (λ w _. bool (bit y w)
        (λ b. rw (b, behind w (within w b) (λ i. clash (bit y u) (rw i at b) e)))
        (λ b. rw b))))

-- what has a set with a member within it has one
pub not_empty : (x y : ℕ) → y < 2 ^ 64 → y ≢ 0 → ((u : ℕ) → bit y u ≡ true → bit x u ≡ true) → x ≢ 0
not_empty x y h d within e = clash (bit x (low y)) (within (low y) (low_in (over_first y h) d)) (rw e (bit_none (low y)))

pub front_none : (q : List ℕ) (x y : ℕ) → y ≡ 0 → false ≡ fronted q x y
unfolding fronted
front_none q x y e = sym (any_fails 64 (λ u. bit y u && not (met q x u)) (λ u _. rw (e, bit_none u)))

-- ---- A sheet's queue as the code reads it

module _ (m : ℕ) (q : List ℕ) (k : ℕ) (h : k < m) where
  pub queue_asked : QUEUE + 2 * m ≤ length q → Ranked q (queue_of m q k) → ((u : ℕ) → bit (queue_x_of m q k) u ≡ true → bit (queue_of m q k) u ≡ true)
      → (QUEUE ≤ length q) × Ranked q (get_or q (QUEUE + 2 * k) 0) × ((u : ℕ) → bit (get_or q (QUEUE + 2 * k + 1) 0) u ≡ true → bit (get_or q (QUEUE + 2 * k) 0) u ≡ true)
  queue_asked l r w = (omega arith, subst (Ranked q) (queue_in m q k h) r, λ u. rw (queue_in m q k h, queue_x_in m q k h) at (w u))

  pub queue_read : fronted q (get_or q (QUEUE + 2 * k) 0) (get_or q (QUEUE + 2 * k + 1) 0) ≡ fronted q (queue_of m q k) (queue_x_of m q k)
  queue_read = rw (queue_in m q k h, queue_x_in m q k h)
