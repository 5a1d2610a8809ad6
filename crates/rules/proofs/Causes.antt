-- A cause is there exactly where the check fails, and it is the first.
use Prim.Native.Nat.{ℕ, ◌<◌}
use mathlib.Core.Path.{◌≡◌, refl, sym, ap, subst, ◌∙◌}
use mathlib.Core.Bool.{Bool, true, false, ◌&&◌, ◌||◌, cond, or-true}
use mathlib.Core.List.{List, [], ◌∷◌}
use mathlib.Core.Option.{none, some, map, none-ne-some}
use native.Mathlib.Omega.{arith}
use lib.Dec.{ltb}
use borrow.Author.Tests.{lt-ltb, ltb-true}
use Rattle.rules.specs.Bytes.{Take}
use Rattle.rules.specs.State.{State, has_copy, claims}
use Rattle.rules.specs.Steps.{holds, at_front, x_on, owns, next, next_is_last, behind, fails_at, finds_invalid, Rule, x_granted, x_waiting, counter_behind, Cause, rule_met, cause, cause_at, first_cause, Verdict, valid, invalid, verdict, found, took, Checked, pass, refuse, check, answered, step_by, step}
use Rattle.rules.specs.Causes.{Says, FirstCause, Explains, WhyFailed}
use Rattle.rules.proofs.Table.{bool, clash, below?, and_l, and_r, any_intro, any_fails, first_none, first_at, first_cases}

-- ---- The tests at one sheet

-- a front entry is an entry
pub front_held : (x : ℕ → Bool) (q : List ℕ) → at_front x q ≡ true → holds x q ≡ true
front_held x [] e = e
front_held x (u ∷ q) e = rw e

-- a sheet that passes has no cause
pub no_cause : (k : ℕ) (o c f h b : Bool) → (f ≡ true → h ≡ true) → o && (c && (h || b)) ≡ false → cond (o && c) (map (cause k) (rule_met f h b)) none ≡ none
no_cause k true true true h b w e = clash (h || b) (rw (w refl)) e
no_cause k true true false true b w e = clash true refl e
no_cause k true true false false true w e = clash true refl e
no_cause k true true false false false w e = refl
no_cause k true false f h b w e = refl
no_cause k false c f h b w e = refl

-- where the check fails, the rule does not ask for the counter
pub failed_rule : (f h b : Bool) → h || b ≡ true → rule_met f h b ≡ rule_met f h true
failed_rule true h b e = refl
failed_rule false true b e = refl
failed_rule false false true e = refl
failed_rule false false false e = clash false e refl

module _ (s : State) (n t : ℕ) where
  abbrev front : ℕ → Bool
  front k = at_front (x_on s.claim k) (s.queue k)

  abbrev held : ℕ → Bool
  held k = holds (x_on s.claim k) (s.queue k)

  abbrev late : ℕ → Bool
  late k = behind s t k

  abbrev older : ℕ → Bool
  older k = ltb (s.copy t k).wct (s.sheet k).wct

  -- node n's sheet k fails
  abbrev fails : ℕ → Bool
  fails k = owns s n k && fails_at s t k

  pub passing : (k : ℕ) → fails k ≡ false → cause_at s n t k ≡ none
  passing k e = no_cause k (owns s n k) (claims (s.claim t k)) (front k) (held k) (late k) (front_held (x_on s.claim k) (s.queue k)) e

  -- the cause at a sheet that fails, by its front entry and its queue alone
  pub failing : (k : ℕ) (r : Rule) → fails k ≡ true → rule_met (front k) (held k) true ≡ some r → cause_at s n t k ≡ some (cause k r)
  failing k r e q =
      let o = and_l (owns s n k) (fails_at s t k) e in
      let f = and_r (owns s n k) (fails_at s t k) e in
      let c = and_l (claims (s.claim t k)) (held k || late k) f in
      let x = and_r (claims (s.claim t k)) (held k || late k) f in
      rw (o, c, failed_rule (front k) (held k) (late k) x, q)

  -- a sheet passes, or it fails and the rule's words hold there
  by_cause : {P : Type 0} (k : ℕ) → (fails k ≡ false → P)
      → ((r : Rule) → cause_at s n t k ≡ some (cause k r) → owns s n k ≡ true → claims (s.claim t k) ≡ true → fails k ≡ true → Says s t k r → P) → P
  by_cause {P} k x y =
      bool (fails k)
      (λ e. let o = and_l (owns s n k) (fails_at s t k) e in
      let f = and_r (owns s n k) (fails_at s t k) e in
      let c = and_l (claims (s.claim t k)) (held k || late k) f in
      go e o c (and_r (claims (s.claim t k)) (held k || late k) f) (front k) (held k) (late k) refl refl refl)
      x
    where
      go : fails k ≡ true → owns s n k ≡ true → claims (s.claim t k) ≡ true → held k || late k ≡ true
          → (f h b : Bool) → front k ≡ f → held k ≡ h → late k ≡ b → P
      go e o c w true h b ef eh eb = y x_granted (failing k x_granted e (rw ef)) o c e ef
      go e o c w false true b ef eh eb = y x_waiting (failing k x_waiting e (rw (ef, eh))) o c e (ef, eh)
      go e o c w false false true ef eh eb = y counter_behind (failing k counter_behind e (rw (ef, eh))) o c e (eh, (and_l (has_copy (s.mark t k)) (older k) eb, ltb-true (s.copy t k).wct (s.sheet k).wct (and_r (has_copy (s.mark t k)) (older k) eb)))
      go e o c w false false false ef eh eb = clash (held k || late k) w (rw (eh, eb))

  -- ---- The first cause

  abbrev M : ℕ
  M = s.header.sheets

  -- what a verdict says at a last place
  abbrev Tells : Verdict → Type 0
  Tells valid = finds_invalid s n t ≡ false
  Tells (invalid c) = (finds_invalid s n t ≡ true) × FirstCause s n t c

  passes : (k : ℕ) → cause_at s n t k ≡ none → fails k ≡ false
  passes k e = by_cause k (λ f. f) (λ r q o c f w. absurd (none-ne-some _ (sym e ∙ q)))

  is_first : (k : ℕ) (a : Cause) → k < M → cause_at s n t k ≡ some a → ((j : ℕ) → j < k → cause_at s n t j ≡ none) → Tells (invalid a)
  is_first k a l e h =
      by_cause k
      (λ f. absurd (none-ne-some a (sym (passing k f) ∙ e)))
      (λ r q o c f w.
      let z : a ≡ cause k r = cc in
      rw z (
        any_intro M fails k l f,
        record {
          sheet = l;
          owned = o;
          claimed = c;
          rule = w;
          first = λ j i p. rw p at (passes j (h j i));
        },
      ))

  explain : Tells (verdict (first_cause s n t))
  explain =
      first_cases M (cause_at s n t)
      (λ h. rw (first_none M (cause_at s n t) h) (any_fails M fails (λ k l. passes k (h k l))))
      (λ k a l e h. rw (first_at M (cause_at s n t) k a l e h) (is_first k a l e h))

  pub found_valid : valid ≡ verdict (first_cause s n t) → finds_invalid s n t ≡ false
  found_valid e = subst Tells (sym e) explain

  pub found_invalid : (c : Cause) → invalid c ≡ verdict (first_cause s n t) → finds_invalid s n t ≡ true
  found_invalid c e = (subst Tells (sym e) explain).0

  at_last : next_is_last s n ≡ true → (v : Verdict) → Tells v → Explains s n t v
  at_last y valid x = rw y x
  at_last y (invalid c) x = rw y x

  -- ---- No other verdict

  says_fails : (k : ℕ) (r : Rule) → claims (s.claim t k) ≡ true → Says s t k r → fails_at s t k ≡ true
  says_fails k x_granted c w = rw (c, front_held (x_on s.claim k) (s.queue k) w)
  says_fails k x_waiting c w = rw (c, w.1)
  says_fails k counter_behind c w = rw (c, w.1.0, lt-ltb (s.copy t k).wct (s.sheet k).wct w.1.1, or-true)

  -- no cause is at a lower sheet than another
  not_lower : (a b : Cause) → FirstCause s n t a → FirstCause s n t b → a.sheet < b.sheet → ⊥
  not_lower a b x y l = clash (fails_at s t a.sheet) (says_fails a.sheet a.rule x.claimed x.rule) (y.first a.sheet l x.owned)

  one_rule : (k : ℕ) (p q : Rule) → Says s t k p → Says s t k q → p ≡ q
  one_rule k x_granted x_granted v w = refl
  one_rule k x_granted x_waiting v w = clash (front k) v w.0
  one_rule k x_granted counter_behind v w = clash (held k) (front_held (x_on s.claim k) (s.queue k) v) w.0
  one_rule k x_waiting x_granted v w = clash (front k) w v.0
  one_rule k x_waiting x_waiting v w = refl
  one_rule k x_waiting counter_behind v w = clash (held k) v.1 w.0
  one_rule k counter_behind x_granted v w = clash (held k) (front_held (x_on s.claim k) (s.queue k) w) v.0
  one_rule k counter_behind x_waiting v w = clash (held k) w.1 v.0
  one_rule k counter_behind counter_behind v w = refl

  one_cause : (a b : Cause) → FirstCause s n t a → FirstCause s n t b → a ≡ b
  one_cause a b x y =
      below? a.sheet b.sheet (λ l. absurd (not_lower a b x y l))
      (λ l. below? b.sheet a.sheet (λ i. absurd (not_lower b a y x i))
      (λ i. let e : a.sheet ≡ b.sheet = omega arith in
      let r : a.rule ≡ b.rule = one_rule b.sheet a.rule b.rule (rw e at x.rule) y.rule in
      λ j. cause (e j) (r j)))

  one_verdict : (v u : Verdict) → Explains s n t v → Explains s n t u → v ≡ u
  one_verdict valid valid x y = refl
  one_verdict valid (invalid b) x y = clash (next_is_last s n && finds_invalid s n t) y.0 x
  one_verdict (invalid a) valid x y = clash (next_is_last s n && finds_invalid s n t) x.0 y
  one_verdict (invalid a) (invalid b) x y = ap {B = Verdict} invalid (one_cause a b x.1 y.1)

-- ---- The answer of a TAKE

explained : (s : State) (n t : ℕ) (v : Verdict) → (step s (Take n)).result ≡ answered (took t v) → Explains s n t v
explained s n t v e = go (check s (Take n)) e
  where
    go : (c : Checked) → (step_by c s (Take n)).result ≡ answered (took t v) → Explains s n t v
    go pass q =
        let z : next s n ≡ t = cc in
        let w : found (next_is_last s n) (first_cause s n (next s n)) ≡ v = cc in
        rw (← w, ← z) (bool (next_is_last s n) (λ y. rw y (at_last s n (next s n) y (verdict (first_cause s n (next s n))) (explain s n (next s n)))) (λ y. let x : Explains s n (next s n) valid = rw y in rw y x))
    go (refuse m) q = absurd (let z : ◌≡◌ {A = ℕ} 0 1 = cc in omega arith)

pub why_failed : WhyFailed
why_failed = record { explained = explained; no_other = one_verdict }
