-- A number determines its answer: taken apart by the host's macros, it gives what it was made of.
use Prim.Native.Nat.{ℕ, ◌+◌, ◌*◌, ◌/◌, ◌%◌, ◌^◌, ◌<◌, min}
use mathlib.Core.Path.{◌≡◌, refl, ap, ◌∙◌}
use native.Mathlib.Nat.{min-le_right}
use native.Mathlib.Omega.{arith}
use Rattle.rules.specs.Steps.{Rule, x_granted, x_waiting, counter_behind, valid, invalid, accepted, content_is, took, commits, second_run}
use Rattle.rules.specs.Calls as calls
use Rattle.rules.specs.Calls.{no_command, answers, refusal}
use Rattle.rules.specs.Writing as lists
use Rattle.codes.specs.Codes.{coded, rule_code, answer_code, last_place, outcome_code}
use Rattle.codes.specs.Decoding.{kind, value, number, save, sheet, rule_numbered, answer_of, outcome_in, as_told}

-- ---- A number's parts

module _ (k v n : ℕ) (w : v < 2 ^ 40) (h : n < 2 ^ 8) where
  kind_back : kind (coded k v n) ≡ k
  kind_back = omega arith

  value_back : value (coded k v n) ≡ v
  value_back = omega arith

  number_back : number (coded k v n) ≡ n
  number_back = omega arith

-- ---- Answers

-- each part has room: 40 bits for a content or an offset, 16 for a save or a sheet, 8 for a refusal's number
abbrev pub Fitting : calls.Reply → Type 0
Fitting no_command = Unit {0}
Fitting (answers accepted) = Unit {0}
Fitting (answers (content_is v)) = v < 2 ^ 40
Fitting (answers (took t valid)) = t < 2 ^ 16
Fitting (answers (took t (invalid c))) = (t < 2 ^ 16) × (c.sheet < 2 ^ 16)
Fitting (answers commits) = Unit {0}
Fitting (answers second_run) = Unit {0}
Fitting (refusal p n) = (p < 2 ^ 40) × (n < 2 ^ 8)

rule_small : (r : Rule) → rule_code r < 2 ^ 8
rule_small x_granted = omega arith
rule_small x_waiting = omega arith
rule_small counter_behind = omega arith

rule_back : (r : Rule) → rule_numbered (rule_code r) ≡ r
rule_back x_granted = refl
rule_back x_waiting = refl
rule_back counter_behind = refl

pub answer_back : (r : calls.Reply) → Fitting r → answer_of (answer_code r) ≡ r
unfolding answer_of
answer_back no_command h = refl
answer_back (answers accepted) h = refl
answer_back (answers (content_is v)) h = rw (kind_back 2 v 0 h (omega arith), value_back 2 v 0 h (omega arith))
answer_back (answers (took t valid)) h =
    let s : save (coded 3 t 0) ≡ t = omega arith in
    rw (kind_back 3 t 0 (omega arith) (omega arith), s)
answer_back (answers (took t (invalid c))) h =
    let r = rule_small c.rule in
    let v : c.sheet * 65536 + t < 2 ^ 40 = omega arith in
    let s : save (coded 4 (c.sheet * 65536 + t) (rule_code c.rule)) ≡ t = omega arith in
    let k : sheet (coded 4 (c.sheet * 65536 + t) (rule_code c.rule)) ≡ c.sheet = omega arith in
    rw (kind_back 4 _ _ v r, s, k, number_back 4 _ _ v r, rule_back c.rule)
answer_back (answers commits) h = refl
answer_back (answers second_run) h = refl
answer_back (refusal p n) h = rw (kind_back 7 p n h.0 h.1, value_back 7 p n h.0 h.1, number_back 7 p n h.0 h.1)

-- the number of such an answer
pub decoded : (r : calls.Reply) {n : ℕ} → Fitting r → n ≡ answer_code r → (n ≡ answer_code r) × (answer_of n ≡ r)
decoded r h e = (e, ap answer_of e ∙ answer_back r h)

-- ---- Outcomes

abbrev pub FittingOutcome : lists.Outcome → Type 0
FittingOutcome (lists.wrote size) = size < 2 ^ 40
FittingOutcome (lists.listed n m q) = (n < 2 ^ 8) × (m < 2 ^ 16) × (q < 2 ^ 16)
FittingOutcome (lists.refuse_with r) = r.number < 2 ^ 8

pub outcome_back : (o : lists.Outcome) → FittingOutcome o → outcome_in (outcome_code o) ≡ as_told o
unfolding outcome_in
outcome_back (lists.wrote n) h = rw (kind_back 8 n 0 h (omega arith), value_back 8 n 0 h (omega arith))
outcome_back (lists.listed n m q) h =
    let v : n * 4294967296 + m * 65536 + q < 2 ^ 40 = omega arith in
    let a : (n * 4294967296 + m * 65536 + q) / 2 ^ 32 ≡ n = omega arith in
    let b : (n * 4294967296 + m * 65536 + q) / 2 ^ 16 % 2 ^ 16 ≡ m = omega arith in
    let c : (n * 4294967296 + m * 65536 + q) % 2 ^ 16 ≡ q = omega arith in
    rw (kind_back 9 _ 0 v (omega arith), value_back 9 _ 0 v (omega arith), a, b, c)
outcome_back (lists.refuse_with r) h =
    let v : min r.place last_place < 2 ^ 40 = omega (arith, min-le_right r.place last_place) in
    rw (kind_back 7 _ _ v h, value_back 7 _ _ v h, number_back 7 _ _ v h)

pub told_as : (o : lists.Outcome) {n : ℕ} → FittingOutcome o → n ≡ outcome_code o → (n ≡ outcome_code o) × (outcome_in n ≡ as_told o)
told_as o h e = (e, ap outcome_in e ∙ outcome_back o h)
