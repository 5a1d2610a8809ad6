-- The run's needs, each as one law in plain variables.
use Prim.Native.Nat.{ℕ, suc, ◌+◌, ◌-◌, ◌≤◌, ◌<◌}
use mathlib.Core.Path.{◌≡◌, refl, sym, ap, ◌∙◌}
use mathlib.Core.Bool.{true}
use mathlib.Core.List.{List, [], ◌∷◌}
use mathlib.Core.Option.{Option, none, some}
use native.Mathlib.Omega.{arith}
use lib.ListN.{length, get_or, take, drop, length-drop}
use Rattle.rules.specs.Sizes.{max_commands}
use Rattle.rules.specs.Bytes.{opens, byte, Command, Front, unknown, cut, whole, stopped}
use Rattle.rules.specs.State.{State, fresh}
use Rattle.rules.proofs.Sessions.{session_final}
use Rattle.wire.specs.Meaning.{front_in, opened}
use Rattle.wire.proofs.Front.{rest}
use Rattle.wire.proofs.Headers.{opens_has, owner_small, owners_length}
use Rattle.wire.specs.declared.Header.{Header}
use Rattle.wire.proofs.Opening.{Opening, opening}
use Rattle.wire.proofs.Rest.{step_fits}
use Rattle.refusals.specs.Numbers.{number_of}
use Rattle.refusals.specs.declared.Refusal.{Refusal}
use Rattle.refusals.specs.declared.Refusal.TheVariants.{UnknownCommand, CutShort}
use Rattle.refusals.specs.declared.Refused.{Refused}
use Rattle.std.specs.Prelude.{Result, Ok, Err, Some, None}
use Rattle.std.specs.Prelude as std
use Rattle.state.specs.declared.Answer.{Answer}
use Rattle.state.specs.Slices.{Slices}
use Rattle.state.specs.View.{shown, no_tally, advanced}
use Rattle.state.specs.Fit.{Known, Ready, Rising, Fit}
use Rattle.state.specs.Lent.{Steps}
use Rattle.state.specs.Starts.{Starts}
use Rattle.state.proofs.Known.{ready, rising}
use Rattle.tally.specs.declared.Tally.{Tally}
use Rattle.tally.specs.Figures.{figures, Room}
use Rattle.session.specs.declared.Reply.{Reply}
use Rattle.session.specs.Meaning.{reply_to, reply_in, last_of, stop_at, NearLast}
use Rattle.session.specs.Looping.{Begins, Looping}
use Rattle.session.specs.Carried.{Carried, Within}
use Rattle.session.proofs.Loop as loop
use Rattle.session.proofs.Near.{near}
use Rattle.session.proofs.Ready.{known, rises}
use Rattle.session.proofs.Turn.{moved, stayed}

-- ---- The start

-- the owners that stand in the session, as the header has them
pub begins : (b : List ℕ) (h : Header) → opened b ≡ std.Some h → {m : ℕ} {x : Slices} {owners : List ℕ} → owners ≡ take h.sheets (drop 2 b) → m ≡ length owners → Starts h.nodes owners x → Begins b m x
begins b h q {m} {x} {owners} e n s =
    let o = opening b h q in
    let f : owners ≡ take (byte b 1) (drop 2 b) = rw o.sheets_are at e in
    let l : length owners ≡ byte b 1 = rw f (owners_length b o.opened_well) in
    rw n (record {
      opened_well = o.opened_well;
      sheets_are = l;
      shows = s.shows ∙ ap fresh (λ i. record { nodes = o.nodes_are i; sheets = l i; owner = λ k. get_or (f i) k 0 });
      fit = s.fit;
    })

-- each of them is a node's number
pub owners_few : {b : List ℕ} {nodes sheets : ℕ} → Opening b nodes sheets → {owners : List ℕ} → owners ≡ take sheets (drop 2 b) → (k : ℕ) → get_or owners k 0 < 8
owners_few {b} o e k = rw (e, o.sheets_are) (owner_small b o.opened_well k)

pub starts : {b : List ℕ} {m : ℕ} {x : Slices} → Begins b m x → {tally : Tally} → figures tally ≡ no_tally → Looping b m x tally None (2 + m)
starts {b} g f = record { going = rw (f, g.shows, g.sheets_are) (loop.starts b g.opened_well); fit = g.fit; near = tt }

-- the commands start within the session
pub start_within : {b : List ℕ} {m : ℕ} {x : Slices} → Begins b m x → 2 + m ≤ length b
start_within {b} g = rw g.sheets_are (opens_has b g.opened_well).0.fits

-- ---- A turn

-- what the reader found in the slice from p on
pub found : (b : List ℕ) (p : ℕ) {f : Option Front} → f ≡ front_in (take (length b - p) (drop p b)) → front_in (drop p b) ≡ f
found b p e = ap front_in (sym (rest b p)) ∙ sym e

-- where something stands, there are bytes left
left : (p : ℕ) (b : List ℕ) {f : Front} → front_in (drop p b) ≡ some f → p < length b
left p b {f} e = by (drop p b) refl e
  where
    by : (l : List ℕ) → drop p b ≡ l → front_in l ≡ some f → p < length b
    by [] q g = absurd (let z : ◌≡◌ {A = ℕ} 0 1 = cc in omega arith)
    by (y ∷ ys) q g = omega (arith, length-drop p b, ap length q)

module _ {b : List ℕ} (o : opens b ≡ true) {m : ℕ} {x : Slices} {tally : Tally} {last : std.Option Reply} {p : ℕ} (v : Looping b m x tally last p) where
  abbrev here : State
  here = shown m x (figures tally)

  counted : tally.accepted ≤ max_commands
  counted = omega (arith, v.going.counted, v.going.within, (opens_has b o).0.size)

  known_here : Known here
  known_here = known b o here v.going.reached v.going.header_is counted

  pub is_ready : Ready m x.bytes x.sets x.queues
  is_ready = ready m x (figures tally) known_here v.fit

  pub is_rising : Rising m x.sheets
  is_rising = rising m x (figures tally) (λ k _. rises b o here v.going.reached v.going.header_is counted k)

  pub room : Room tally
  room = record {
    accepted = omega (arith, counted);
    first = omega (arith, counted, v.going.reached.figures.first);
    second = omega (arith, counted, v.going.reached.figures.second);
  }

  -- ---- A whole command at p

  module _ {c : Command} {w : ℕ} (e : front_in (drop p b) ≡ some (whole c w)) where
    size : p + 1 + w ≡ p + suc w
    size = omega arith

    pub fits : p + suc w ≤ length b
    fits = rw size at (step_fits b p c w e)

    module _ {m' : ℕ} {x' : Slices} (f' : Fit m' x') where
      module _ {a : Answer} (s : Steps (shown m x) c (shown m' x') (Ok a)) where
        abbrev after : State
        after = shown m' x' (advanced (figures tally) a)

        pub is_near : NearLast (Some (reply_to a))
        is_near = near here after c known_here.sheets16 a (s.equation (figures tally))

        pub goes_on : {t : Tally} → figures t ≡ advanced (figures tally) a → Looping b m' x' t (Some (reply_to a)) (p + suc w)
        goes_on f =
            let y = moved here after c a (s.equation (figures tally)) in
            record {
              going = rw (← size) (rw (f, y.state, y.reply) (loop.accepted b here (last_of last) p v.going c w e y.passed));
              fit = f';
              near = is_near;
            }

      -- a refused command leaves the state as it was, and what is known of it
      pub stops : {r : Refusal} → Steps (shown m x) c (shown m' x') (Err r) → {l : std.Option Answer} → reply_in l ≡ last → Carried b m' x' (record { tally = tally; last = l; stop = Err (record { place = p; why = r }) })
      stops {r} s e' =
          let y = stayed here (shown m' x' (figures tally)) c (number_of r) (s.equation (figures tally)) in
          record {
            same = loop.refused b here (last_of last) p v.going c w e (number_of r) y.refused
                ∙ rw e (λ i. record { state = sym y.state i; stop = stopped p (number_of r) (suc w); last = last_of (sym e' i) });
            ready = ready m' x' (figures tally) (rw y.state known_here) f';
            fit = f';
            within = omega (arith, fits);
            near = rw e' v.near;
          }

  -- ---- The reading ends at p

  module _ {l : std.Option Answer} (e' : reply_in l ≡ last) where
    carried : (st : Result Unit Refused) → session_final b ≡ record { state = here; stop = stop_at b st; last = last_of last } → Within (length b) st → Carried b m x (record { tally = tally; last = l; stop = st })
    carried st same w = record { same = same ∙ (λ i. record { state = here; stop = stop_at b st; last = last_of (sym e' i) }); ready = is_ready; fit = v.fit; within = w; near = rw e' v.near }

    pub at_unknown : front_in (drop p b) ≡ some unknown → Carried b m x (record { tally = tally; last = l; stop = Err (record { place = p; why = UnknownCommand }) })
    at_unknown f = carried (Err (record { place = p; why = UnknownCommand })) (rw f (loop.at_no_command b here (last_of last) p v.going f)) (left p b f)

    pub at_cut : front_in (drop p b) ≡ some cut → Carried b m x (record { tally = tally; last = l; stop = Err (record { place = p; why = CutShort }) })
    at_cut f = carried (Err (record { place = p; why = CutShort })) (rw f (loop.cut_short b here (last_of last) p v.going f)) (left p b f)

    pub at_end : front_in (drop p b) ≡ none → Carried b m x (record { tally = tally; last = l; stop = Ok tt })
    at_end f = carried (Ok tt) (loop.ends b here (last_of last) p v.going f) tt
