-- What a new claim comes to in the sets and in the view.
use Prim.Native.Nat.{ℕ, ◌+◌, ◌*◌, ◌/◌, ◌%◌, ◌≤◌, ◌<◌}
use mathlib.Core.Path.{◌≡◌, refl, sym, ◌∙◌, fun_ext}
use mathlib.Core.Bool.{Bool, true, false, ◌||◌}
use mathlib.Core.Logic.{◌≢◌}
use mathlib.Core.List.{List}
use native.Mathlib.Omega.{arith}
use Rattle.rules.specs.State.{Claim, join_claim, joined_claim}
use Rattle.rules.proofs.Table.{bool, same?, below?, clash, row_same, row_other}
use Rattle.sets.specs.Bit.{bit, word, in_row, blocks}
use Rattle.state.specs.View.{in_set, owner_in, claim_in, claim_of, mark_of, COPIED, WRITTEN, CLAIM, CLAIM_X, HELD, OWNED, rows}
use Rattle.state.specs.Fit.{Sets}
use Rattle.state.proofs.Parts.{member_same, in_block}
use Rattle.state.proofs.Rows.{set_row, set_none, set_by, sets_by, owners_by}
use Rattle.joining.specs.Joining.{Claimed}

-- claim and mark as one claim
joined_of : (c x p w : Bool) → claim_of (c || p) (x || w) ≡ join_claim (claim_of c x) (mark_of p w)
joined_of true true true true = refl
joined_of true true true false = refl
joined_of true true false true = refl
joined_of true true false false = refl
joined_of true false true true = refl
joined_of true false true false = refl
joined_of true false false true = refl
joined_of true false false false = refl
joined_of false true true true = refl
joined_of false true true false = refl
joined_of false true false true = refl
joined_of false true false false = refl
joined_of false false true true = refl
joined_of false false true false = refl
joined_of false false false true = refl
joined_of false false false false = refl

both : (x w c p : Bool) → (x ≡ true → c ≡ true) → (w ≡ true → p ≡ true) → (x || w) ≡ true → (c || p) ≡ true
both true w c p f g e = rw (f refl)
both false true c p f g e = rw (g refl) (bool c (λ y. rw y) (λ y. rw y))
both false false c p f g e = clash false e refl

module _ (m : ℕ) {t : ℕ} (t32 : t < 32) {s s' : List ℕ} (c : Claimed (blocks m) t s s') where
  pub copied_same : in_set m COPIED s' ≡ in_set m COPIED s
  copied_same = sets_by m s s' COPIED (λ u j h _. c.rest (COPIED + u) j (omega arith) (λ e. omega arith) (λ e. omega arith))

  pub written_same : in_set m WRITTEN s' ≡ in_set m WRITTEN s
  written_same = sets_by m s s' WRITTEN (λ u j h _. c.rest (WRITTEN + u) j (omega arith) (λ e. omega arith) (λ e. omega arith))

  pub held_same : in_set m HELD s' ≡ in_set m HELD s
  held_same = sets_by m s s' HELD (λ u j h _. c.rest (HELD + u) j (omega arith) (λ e. omega arith) (λ e. omega arith))

  owned_same : (n j : ℕ) → n < 8 → j < blocks m → word s' (OWNED + n) j ≡ word s (OWNED + n) j
  owned_same n j h _ = c.rest (OWNED + n) j (omega arith) (λ e. omega arith) (λ e. omega arith)

  pub owner_same : owner_in m s' 8 ≡ owner_in m s 8
  owner_same = owners_by m s s' owned_same

  -- another save's claim
  claim_other : (u k : ℕ) → u ≢ t → in_set m CLAIM s' u k ≡ in_set m CLAIM s u k
  claim_other u k d = set_by m s s' CLAIM u k (λ h j _. c.rest (CLAIM + u) j (omega arith) (λ e. d (omega arith)) (λ e. omega arith))

  pub claim_x_other : (u k : ℕ) → u ≢ t → in_set m CLAIM_X s' u k ≡ in_set m CLAIM_X s u k
  claim_x_other u k d = set_by m s s' CLAIM_X u k (λ h j _. c.rest (CLAIM_X + u) j (omega arith) (λ e. omega arith) (λ e. d (omega arith)))

  -- its own: row `new` has what `old` has, and what `more` has
  joined_rows : (new more : ℕ) → ((j c : ℕ) → j < blocks m → bit (word s' (new + t) j) c ≡ (bit (word s (new + t) j) c || bit (word s (more + t) j) c)) → (k : ℕ) → in_set m new s' t k ≡ (in_set m new s t k || in_set m more s t k)
  unfolding in_row
  joined_rows new more e k = below? k m
      (λ h. rw (set_row m s new t32 k h, set_row m s more t32 k h) (set_row m s' new t32 k h ∙ e (k / 64) (k % 64) (in_block m k h)))
      (λ h. rw (set_none m s new t32 k h, set_none m s more t32 k h) (set_none m s' new t32 k h))

  claim_own : (k : ℕ) → in_set m CLAIM s' t k ≡ (in_set m CLAIM s t k || in_set m COPIED s t k)
  claim_own = joined_rows CLAIM COPIED c.claim

  claim_x_own : (k : ℕ) → in_set m CLAIM_X s' t k ≡ (in_set m CLAIM_X s t k || in_set m WRITTEN s t k)
  claim_x_own = joined_rows CLAIM_X WRITTEN c.claim_x

  -- ---- The rules' claim

  pub claims_after : claim_in m s' ≡ joined_claim (claim_in m s) (λ u k. mark_of (in_set m COPIED s u k) (in_set m WRITTEN s u k)) t
  claims_after = fun_ext (λ u. fun_ext (λ k. same? u t
      (λ e. rw (e, claim_own k, claim_x_own k) (joined_of (in_set m CLAIM s t k) (in_set m CLAIM_X s t k) (in_set m COPIED s t k) (in_set m WRITTEN s t k) ∙ sym (row_same (claim_in m s) t new k)))
      (λ d. rw (claim_other u k d, claim_x_other u k d) (sym (row_other (claim_in m s) t new u k d)))))
    where
      new : ℕ → Claim
      new k = join_claim (claim_in m s t k) (mark_of (in_set m COPIED s t k) (in_set m WRITTEN s t k))

  -- ---- What sets say twice

  module _ (z : Sets m s) where
    claimed_after : (u k : ℕ) → in_set m CLAIM_X s' u k ≡ true → in_set m CLAIM s' u k ≡ true
    claimed_after u k e = same? u t
        (λ q. rw (q, claim_own k) (both (in_set m CLAIM_X s t k) (in_set m WRITTEN s t k) (in_set m CLAIM s t k) (in_set m COPIED s t k) (z.claimed t k) (z.written t k) (sym (claim_x_own k) ∙ rw q at e)))
        (λ d. claim_other u k d ∙ z.claimed u k (sym (claim_x_other u k d) ∙ e))

    ends_after : (i j d : ℕ) → i < rows → j < blocks m → d < 64 → m ≤ 64 * j + d → bit (word s' i j) d ≡ false
    ends_after i j d h b l p = same? i (CLAIM + t)
        (λ e. rw (e, c.claim j d b, z.ends (CLAIM + t) j d (omega arith) b l p, z.ends (COPIED + t) j d (omega arith) b l p))
        (λ e. same? i (CLAIM_X + t)
        (λ f. rw (f, c.claim_x j d b, z.ends (CLAIM_X + t) j d (omega arith) b l p, z.ends (WRITTEN + t) j d (omega arith) b l p))
        (λ f. rw (c.rest i j h e f) (z.ends i j d h b l p)))

    pub sets_after : Sets m s'
    sets_after = record {
      written = λ u k e. rw copied_same (z.written u k (rw written_same at e));
      claimed = claimed_after;
      owners = λ n k a h. rw owner_same (member_same m s s' (OWNED + n) k (λ j. owned_same n j a) ∙ z.owners n k a h);
      ends = ends_after;
    }
