-- Each claim of specs/TooStrong is refuted by its session, by computation.
use Prim.Native.Nat.{ℕ}
use Prim.Native.Char.{code}
use mathlib.Core.Path.{◌≡◌, refl, sym, ap, ◌∙◌}
use mathlib.Core.Bool.{Bool, true, ◌&&◌}
use mathlib.Core.List.{List, [], ◌∷◌}
use mathlib.Core.Option.{or_else}
use native.Mathlib.Omega.{arith}
use Rattle.rules.specs.Table.{upd, upd2, row, all, any, first_below, count}
use Rattle.rules.specs.Bytes.{byte, Command, Begin, Submit, Take, Apply, header, read_from}
use Rattle.rules.specs.State.{State, fresh, wide_by, by_last}
use Rattle.rules.specs.Steps.{x_on, x_granted, counter_behind, Cause, cause, invalid, took, answered, step, run}
use Rattle.rules.specs.Serial.{no_history, heard}
use Rattle.rules.specs.Demand3.{after, told, of_four_kinds, FourKinds, accepted_of, places, wide_runs, session_commands}
use Rattle.rules.specs.Calls.{stop, session_run}
use Rattle.rules.specs.Report.{figures, decimal, field, rows, place_line, place_lines, sheet_line, sheet_lines, tally_line, refusal_line, stop_line, state_lines, report}
use Rattle.rules.specs.Cases.{hex}
use Rattle.rules.specs.Neighbours.{swap, behind, SwappedSteps}
use Rattle.rules.specs.TooStrong.{RunsTwoAndM, five_runs, WideRunOneStep, three_wide, forty_four, AtOneNode, take_or_apply, AnyReportStays, refused_first, refused_last, NoneHolds}
use Rattle.rules.proofs.Table.{and_l, and_r}

-- ---- Runs

runs_five : (told (header (hex five_runs)) (session_commands (hex five_runs))).runs 1 ≡ 5
unfolding upd upd2 row all any first_below wide_by read_from fresh x_on run no_history heard
runs_five = refl

not_runs : RunsTwoAndM → ⊥
unfolding all
not_runs f = omega (arith, f (hex five_runs) refl 1, runs_five)

-- ---- The bound

-- the four kinds as a test
abbrev four_kinds : State → List Command → Bool
four_kinds s [] = true
four_kinds s (c ∷ cs) = of_four_kinds s c && four_kinds (step s c).state cs

kinds_four : (cs : List Command) (s : State) → four_kinds s cs ≡ true → FourKinds s cs
unfolding FourKinds
kinds_four [] s e = tt
kinds_four (c ∷ cs) s e = (and_l (of_four_kinds s c) (four_kinds (step s c).state cs) e, kinds_four cs (step s c).state (and_r (of_four_kinds s c) (four_kinds (step s c).state cs) e))

-- what stands on either side of the bound
record Sides : Type 0 where
  kinds : Bool
  accepted : ℕ
  placed : ℕ
  wide : ℕ

abbrev sides : List ℕ → List Command → Sides
sides b more = record {
  kinds = four_kinds (after (header b) (session_commands b)) more;
  accepted = accepted_of (after (header b) (session_commands b)) more;
  placed = places (header b) (session_commands b);
  wide = wide_runs (after (header b) (session_commands b));
}

steps_44 : sides (hex three_wide) forty_four ≡ record { kinds = true; accepted = 44; placed = 4; wide = 3 }
unfolding upd upd2 row all any first_below count wide_by read_from fresh x_on run no_history heard accepted_of
steps_44 = refl

not_bound : WideRunOneStep → ⊥
unfolding all
not_bound f =
    let b = hex three_wide in
    let g = f b refl forty_four (kinds_four forty_four (after (header b) (session_commands b)) (ap (λ (x : Sides). x.kinds) steps_44)) in
    omega (arith, g, ap (λ (x : Sides). x.accepted) steps_44, ap (λ (x : Sides). x.placed) steps_44, ap (λ (x : Sides). x.wide) steps_44)

-- ---- Two steps at one node

abbrev before : State
before = (session_run (hex take_or_apply)).state

-- the TAKE's answer, at once and behind the APPLY
taken_first : (step before (Take 0)).result ≡ answered (took 1 (invalid (cause 0 x_granted)))
unfolding upd upd2 row all any or_else first_below wide_by read_from fresh x_on run
taken_first = refl

taken_last : (step (step before (Apply 0 0)).state (Take 0)).result ≡ answered (took 1 (invalid (cause 0 counter_behind)))
unfolding upd upd2 row all any or_else first_below wide_by read_from fresh x_on run
taken_last = refl

not_steps : AtOneNode → ⊥
not_steps f = two (sym taken_last ∙ (f before (Take 0) (Apply 0 0) 0 refl refl).answer_of_a ∙ taken_first)
  where
    two : answered (took 1 (invalid (cause 0 counter_behind))) ≡ answered (took 1 (invalid (cause 0 x_granted))) → ⊥
    two e =
        let c : cause 0 counter_behind ≡ cause 0 x_granted = cc in
        let r : counter_behind ≡ x_granted = ap (λ (c : Cause). c.rule) c in
        let z : ◌≡◌ {A = ℕ} 0 1 = cc in
        omega arith

-- ---- Reports

swapped : SwappedSteps (hex refused_first) (hex refused_last)
unfolding all read_from
swapped = record {
  opened = refl;
  one_header = refl;
  to_its_end = refl;
  steps = behind (Begin 0) (behind (Submit 0) (behind (Take 0) (swap (Take 0) (Take 1) [] refl)));
}

-- the count of commands accepted is the report's byte 26
counted_3 : byte (report (hex refused_first)) 26 ≡ code "3"
unfolding upd upd2 row all any first_below wide_by by_last read_from fresh x_on run stop figures decimal field rows place_line place_lines sheet_line sheet_lines tally_line refusal_line stop_line state_lines report
counted_3 = refl

counted_4 : byte (report (hex refused_last)) 26 ≡ code "4"
unfolding upd upd2 row all any first_below wide_by by_last read_from fresh x_on run stop figures decimal field rows place_line place_lines sheet_line sheet_lines tally_line refusal_line stop_line state_lines report
counted_4 = refl

not_reports : AnyReportStays → ⊥
unfolding all
not_reports f = omega (arith, counted_3, counted_4, ap (λ (l : List ℕ). byte l 26) (f (hex refused_first) (hex refused_last) refl swapped))

pub none_holds : NoneHolds
none_holds = record { runs = not_runs; bound = not_bound; steps = not_steps; reports = not_reports }
