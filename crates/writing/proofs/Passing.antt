-- Steps that pass, written one after the other.
use Prim.Native.Nat.{ℕ, ◌+◌, ◌*◌, ◌≤◌, ◌<◌}
use mathlib.Core.Path.{◌≡◌, refl, sym, ap, ◌∙◌}
use mathlib.Core.List.{List, [], ◌∷◌, ◌++◌, append-nil, append_assoc}
use mathlib.Core.Option.{none}
use native.Mathlib.Numerals.{add-one}
use native.Mathlib.Omega.{arith}
use borrow.Author.Tests.{eqb-true}
use lib.Dec.{eqb}
use lib.ListN.{length, get_or, drop, length-append, length-drop}
use Rattle.rules.specs.Writing.{slots, below_limits, steps_refusal, step_bytes, steps_bytes, instructions}
use Rattle.rules.proofs.Table.{and_l, below?}
use Rattle.rules.proofs.Writing.{first_passes}
use Rattle.forms.specs.Slots.{Known}
use Rattle.forms.proofs.Slots.{form_known}
use Rattle.text.specs.declared.Writer.{Writer}
use Rattle.text.specs.Writes.{Writes}
use Rattle.text.proofs.Writing.{writes_as}
use Rattle.writing.specs.Meaning.{step_in, steps_of, Passes}
use Rattle.writing.specs.Ahead.{Ahead}
use Rattle.writing.proofs.Ahead.{ahead_none, ahead_then, ahead_all}
use Rattle.writing.proofs.Lists.{next_step, no_step, cut_of}

-- the steps before number q are written, and the others pass
pub record Put (ws : List ℕ) (q : ℕ) (w v : Writer) : Type 0 where
  pub n : ℕ
  pub m : ℕ
  pub pass : steps_refusal n m q (instructions (drop (4 * q) ws)) ≡ none
  pub so_far : List ℕ
  pub text : so_far ++ steps_bytes (instructions (drop (4 * q) ws)) ≡ steps_of ws
  pub wrote : Ahead w v so_far

pub put_none : (ws : List ℕ) (w : Writer) → Passes ws → Put ws 0 w w
put_none ws w p = record { n = p.0; m = p.1.0; pass = p.1.1; so_far = []; text = refl; wrote = ahead_none w }

module _ {ws : List ℕ} {q : ℕ} {w v : Writer} (p : Put ws q w v) where
  abbrev i : ℕ
  i = 4 * q

  module _ (h : 4 * q + 4 ≤ length ws) where
    here_passes : steps_refusal p.n p.m q (step_in ws i ∷ instructions (drop (i + 4) ws)) ≡ none
    here_passes = rw (next_step ws i h) at p.pass

    pub here_known : Known (get_or ws (4 * q) 0)
    here_known = first_passes p.n p.m q (step_in ws i) (instructions (drop (i + 4) ws)) here_passes (λ f z fit rest. form_known (get_or ws i 0) f z)

    text_next : (p.so_far ++ step_bytes (step_in ws i)) ++ steps_bytes (instructions (drop (i + 4) ws)) ≡ steps_of ws
    unfolding steps_bytes
    text_next = append_assoc p.so_far (step_bytes (step_in ws i)) (steps_bytes (instructions (drop (i + 4) ws))) ∙ rw (next_step ws i h) at p.text

    pub here_room : w.at + length (steps_of ws) ≡ length w.buf.now → v.at + length (step_bytes (step_in ws (4 * q))) ≤ length v.buf.now
    here_room r =
        omega (arith, p.wrote.wrote.ends, p.wrote.long, ap length text_next, length-append (p.so_far ++ step_bytes (step_in ws i)) (steps_bytes (instructions (drop (i + 4) ws))), length-append p.so_far (step_bytes (step_in ws i)))

    pub put_next : {u : Writer} → Ahead v u (step_bytes (step_in ws (4 * q))) → Put ws (q + 1) w u
    put_next t =
        let next : 4 * (q + 1) ≡ i + 4 = omega arith in
        first_passes p.n p.m q (step_in ws i) (instructions (drop (i + 4) ws)) here_passes (λ f z fit rest.
        record { n = p.n; m = p.m; pass = rw (next, add-one) rest; so_far = p.so_far ++ step_bytes (step_in ws i); text = rw next text_next; wrote = ahead_then p.wrote t })

  pub put_all : length ws < 4 * q + 4 → w.at + length (steps_of ws) ≡ length w.buf.now → Writes w v (steps_of ws) (length (steps_of ws))
  unfolding steps_bytes
  put_all h r =
      below? i (length ws)
      (λ l. absurd (cut_fails l))
      (λ l.
      let x = no_step ws i l in
      let whole : p.so_far ≡ steps_of ws = sym (append-nil p.so_far) ∙ rw x at p.text in
      writes_as whole (omega (arith, ap length whole)) (ahead_all p.wrote (omega (arith, p.wrote.wrote.ends, ap length whole))))
    where
      cut_fails : i < length ws → ⊥
      cut_fails l =
          cut_of (drop i ws) (rw length-drop (omega arith)) (rw length-drop (omega arith)) (λ vs short x.
          first_passes p.n p.m q (record { number = get_or (drop i ws) 0 0; operands = vs }) [] (rw x at p.pass) (λ f z fit rest.
          omega (arith, eqb-true (length vs) slots (and_l (eqb (length vs) slots) (below_limits p.n p.m f.operands vs) fit))))
