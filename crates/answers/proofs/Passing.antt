-- The pass's needs, each as one law in plain variables.
use Prim.Native.Nat.{ℕ, suc, ◌+◌, ◌≤◌, ◌<◌}
use mathlib.Core.Path.{◌≡◌, refl, sym, ap, ◌∙◌}
use mathlib.Core.Bool.{true}
use mathlib.Core.List.{List, [], ◌∷◌, ◌++◌, map, map-append, append_assoc}
use mathlib.Core.Option.{some}
use native.Mathlib.Omega.{arith}
use lib.ListN.{length, drop, length-map}
use Rattle.std.specs.Prelude.{Ok, Err, Some, None}
use Rattle.rules.specs.Sizes.{max_commands}
use Rattle.rules.specs.Bytes.{opens, Command, whole, ended, stopped, Step as Stepping, Reading, more, read_from}
use Rattle.rules.specs.State as rules
use Rattle.rules.specs.State.{State}
use Rattle.rules.specs.Steps.{check, pass, refuse, effect, answer}
use Rattle.rules.specs.Calls.{answers, refusal}
use Rattle.rules.specs.Calls as calls
use Rattle.rules.specs.Answers.{replies, session_replies}
use Rattle.text.proofs.Writing.{wrote_none, wrote_next}
use Rattle.refusals.specs.Numbers.{number_of}
use Rattle.refusals.specs.declared.Refusal.{Refusal}
use Rattle.refusals.specs.declared.Refused.{Refused}
use Rattle.wire.specs.Meaning.{front_in}
use Rattle.wire.proofs.Headers.{opens_has}
use Rattle.wire.proofs.Rest.{at_end, at_unknown, at_cut, at_step, has_operands}
use Rattle.state.specs.Slices.{Slices}
use Rattle.state.specs.View.{shown, tables, no_tally, advanced}
use Rattle.state.specs.Fit.{Fit}
use Rattle.state.specs.Lent.{Steps}
use Rattle.state.specs.declared.Answer.{Answer}
use Rattle.state.specs.declared.Session.{Session}
use Rattle.tally.specs.declared.Tally.{Tally}
use Rattle.tally.specs.Figures.{figures}
use Rattle.session.specs.Meaning.{value_of, reply_to, reply_of, NearLast}
use Rattle.session.specs.Stepping.{StepsAt}
use Rattle.session.specs.Looping.{Begins}
use Rattle.session.proofs.Needs as needs
use Rattle.session.proofs.Stepping as stepping
use Rattle.session.proofs.Turn.{moved, stayed}
use Rattle.codes.specs.Codes.{answer_code, NearReply}
use Rattle.codes.specs.Decoding.{answer_of}
use Rattle.answers.specs.Telling.{Numbered, Listed, rest, Telling}

-- ---- Answers told

none_told : (l : List ℕ) (a : ℕ) → Numbered l a [] 0 a l
none_told l a = record { wrote = wrote_none l a; again = refl }

-- more of them, in a room for all
told_next : {l m k : List ℕ} {us vs ws : List calls.Reply} {a p n x y z : ℕ} → us ++ vs ≡ ws → x + y ≤ z → Numbered l a us x p m → Numbered m p vs y n k → Numbered l a ws z n k
told_next {us = us} {vs = vs} e h f g = record {
  wrote = wrote_next (sym (map-append answer_code us vs) ∙ ap (map answer_code) e) h f.wrote g.wrote;
  again = rw (← e, map-append answer_code us vs, map-append answer_of (map answer_code us) (map answer_code vs), f.again, g.again);
}

-- ---- The start

-- the tally with these figures
abbrev tally_of : rules.Tally → Tally
tally_of a = record { accepted = a.accepted; first = a.from_first; second = a.from_second }

pub starts : {b : List ℕ} {m : ℕ} {x : Slices} → Begins b m x → (l : List ℕ) → Telling b m x (2 + m) l l 0
unfolding session_replies
starts {b} {m} g l = record {
  tally = tally_of no_tally;
  last = None;
  looping = needs.starts g refl;
  done = [];
  listed = none_told l 0;
  same = rw (g.shows, g.sheets_are);
  few = omega arith;
}

-- ---- The answers from a command on

module _ (s : State) (st : Stepping) (r : Reading) where
  replies_accepts : check s st.command ≡ pass → replies s (more st r).steps (more st r).stop ≡ answers (answer s st.command) ∷ replies (effect s st.command) r.steps r.stop
  unfolding replies
  replies_accepts e = rw e

  replies_refuses : (n : ℕ) → check s st.command ≡ refuse n → replies s (more st r).steps (more st r).stop ≡ refusal st.offset n ∷ []
  unfolding replies
  replies_refuses n e = rw e

replies_ends : (s : State) {r : Reading} {p n k : ℕ} → r ≡ record { steps = []; stop = stopped p n k } → replies s r.steps r.stop ≡ refusal p n ∷ []
unfolding replies
replies_ends s e = rw e

nothing_left : (s : State) {r : Reading} → r ≡ record { steps = []; stop = ended } → replies s r.steps r.stop ≡ []
unfolding replies
nothing_left s e = rw e

module _ {b : List ℕ} (o : opens b ≡ true) {m : ℕ} {x : Slices} {p count : ℕ} {before after : List ℕ} (v : Telling b m x p before after count) where
  abbrev here : State
  here = shown m x (figures v.tally)

  room : p < length b → count < max_commands
  room l = omega (arith, v.few, (opens_has b o).0.size)

  -- the list is complete with these answers
  ended_by : {l : List ℕ} {n : ℕ} (us : List calls.Reply) → rest b here p ≡ us → Numbered after count us (length us) n l → p + length us ≤ length b → length us ≤ 1
      → Listed b m before n l
  ended_by us e w q h = record {
    listed = told_next (ap (λ t. v.done ++ t) (sym e) ∙ v.same) (omega (arith, v.few, (opens_has b o).0.size)) v.listed w;
    few = let z = w.wrote.ends in let y = length-map us answer_code in omega (arith, v.few);
  }

  -- with a refusal
  refused_by : {l : List ℕ} {n k : ℕ} → rest b here p ≡ refusal p k ∷ [] → p < length b → Numbered after count (refusal p k ∷ []) 1 n l → Listed b m before n l
  refused_by {k = k} e h w = ended_by (refusal p k ∷ []) e w (omega arith) (omega arith)

  -- a whole command
  module _ {c : Command} {w : ℕ} (e : front_in (drop p b) ≡ some (whole c w)) where
    abbrev this : Stepping
    this = record { offset = p; size = suc w; command = c }

    abbrev onward : Reading
    onward = read_from 0 (p + suc w) (drop (p + suc w) b)

    reads_this : read_from 0 p (drop p b) ≡ more this onward
    reads_this = let z : p + suc w ≡ p + 1 + w = omega arith in rw z (at_step b p c w e)

    module _ (m' : ℕ) (x' : Slices) where
      goes_on : {a : Answer} → Steps (shown m x) c (shown m' x') (Ok a) → Fit m' x' → m' ≡ m → {l : List ℕ} {n : ℕ}
          → Numbered after count (answers (value_of (reply_to a)) ∷ []) 1 n l → Telling b m' x' (p + suc w) before l n
      goes_on {a} s f q {l} {n} told =
          let r : calls.Reply = answers (value_of (reply_to a)) in
          let t = tally_of (advanced (figures v.tally) a) in
          let y = moved here (shown m' x' (figures t)) c a (s.equation (figures v.tally)) in
          let g : rest b here p ≡ r ∷ rest b (effect here c) (p + suc w) =
          ap (λ (t : Reading). replies here t.steps t.stop) reads_this ∙ replies_accepts here this onward y.passed
          ∙ ap (λ u. u ∷ rest b (effect here c) (p + suc w)) (sym y.reply) in
          let one : n ≡ count + 1 = told.wrote.ends in
          record {
            tally = t;
            last = Some a;
            looping = needs.goes_on o v.looping e f s refl;
            done = v.done ++ r ∷ [];
            listed = told_next refl (omega (arith, one)) v.listed told;
            same = append_assoc v.done (r ∷ []) (rest b (shown m' x' (figures t)) (p + suc w))
                ∙ ap (λ u. v.done ++ r ∷ rest b u (p + suc w)) y.state
                ∙ ap (λ u. v.done ++ u) (sym g) ∙ v.same;
            few = omega (arith, v.few, has_operands b p c w e, one);
          }

      stops : {r : Refusal} → Steps (shown m x) c (shown m' x') (Err r) → p < length b → {l : List ℕ} {n : ℕ}
          → Numbered after count (refusal p (number_of r) ∷ []) 1 n l → Listed b m before n l
      stops {r} s h told =
          let y = stayed here (shown m' x' (figures v.tally)) c (number_of r) (s.equation (figures v.tally)) in
          refused_by (ap (λ (t : Reading). replies here t.steps t.stop) reads_this ∙ replies_refuses here this onward (number_of r) y.refused) h told

-- ---- By a step's result

module _ {b : List ℕ} (o : opens b ≡ true) (x x' : Session) (q : x'.m ≡ x.m) {p count : ℕ} {before after : List ℕ} (v : Telling b x.m (tables x) p before after count) where
  -- an answer's parts are near
  module _ (a : Answer) (z : ℕ) (s : StepsAt b p x x' (Ok (Some (a, z)))) where
    pub may_tell : (count < max_commands) × NearLast (Some (reply_to a))
    may_tell =
        let h = stepping.fits o x x' q v.looping a z s in
        let k = stepping.has_size o x x' q v.looping a z s in
        let near : NearLast (Some (reply_to a)) = (stepping.goes_on o x x' q v.looping a z s {t = tally_of (advanced (figures v.tally) a)} refl).near in
        (room o v (omega (arith, h, k)), near)

    pub tells : {l : List ℕ} {n : ℕ} → Numbered after count (answers (value_of (reply_to a)) ∷ []) 1 n l → Telling b x'.m (tables x') (p + z) before l n
    tells told = stepping.on_answer b p x x' {a = a} {z = z} s (λ c w f j y k. rw j (goes_on o v f x'.m (tables x') y (k v.looping.fit) q told))

  -- a refusal stands where the step began, where there is a byte
  module _ (r : Refused) (s : StepsAt b p x x' (Err r)) where
    at_place : r.place ≡ p
    at_place = stepping.on_refusal b p x x' {P = r.place ≡ p} {r = r} s (λ f i t. ap (λ u. u.place) i) (λ f i t. ap (λ u. u.place) i) (λ c w y f i n k. ap (λ u. u.place) i)

    within : r.place < length b
    within = (stepping.stops o x x' q v.looping refl {r = r} s).within

    pub may_refuse : (count < max_commands) × NearReply (Err r)
    may_refuse = (room o v (omega (arith, at_place, within)), omega (arith, within, (opens_has b o).0.size))

    pub refuses : {l : List ℕ} {n : ℕ} → Numbered after count (reply_of (Err r) ∷ []) 1 n l → Listed b x.m before n l
    refuses told =
        let h : p < length b = omega (arith, at_place, within) in
        stepping.on_refusal b p x x' {r = r} s
        (λ f i t. refused_by o v (replies_ends (here o v) (at_unknown b p f)) h (rw i at told))
        (λ f i t. refused_by o v (replies_ends (here o v) (at_cut b p f)) h (rw i at told))
        (λ c w y f i n k. stops o v f x'.m (tables x') n h (rw i at told))

  pub ends : StepsAt b p x x' (Ok None) → Listed b x.m before count after
  ends s = stepping.on_end b p x x' s (λ f t. ended_by o v [] (nothing_left (here o v) (at_end b p f)) (none_told after count) (omega (arith, v.looping.going.within)) (omega arith))
