-- Refusal 1, or the state of the run; what is said of entries is the rules' theorem.
use mathlib.Core.Path.{sym, ◌∙◌}
use Rattle.rules.proofs.Showing.{granted_alone}
use Rattle.codes.proofs.Laws.{placed_told}
use Rattle.states.proofs.Laws.{no_state, no_text}
use Rattle.states.proofs.cusphewa_state.Goals as goal

pub show-requires : goal.show-requires
show-requires c = sym c.read_header.ensures ∙ c.in-Some.is

pub returns-in-None : goal.returns-in-None
returns-in-None c =
    let e = sym c.read_header.ensures ∙ c.in-None.is in
    let t = no_state _ e (rw c.at.ensures at c.refusal_code.ensures.value) in
    record {
      room_after = t.0;
      decoded = t.1;
      short = no_text _ e;
      granted = granted_alone;
    }

pub returns-in-Some : goal.returns-in-Some
returns-in-Some c =
    let w = c.show.ensures in
    let t = placed_told c.show.result w.room_after (c.placed_code.ensures.value, c.placed_code.ensures.decoded) in
    record {
      room_after = t.0;
      decoded = t.1;
      short = w.short;
      granted = granted_alone;
    }
