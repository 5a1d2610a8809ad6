-- A step's result, taken apart; and what is known of a session after it.
use Prim.Native.Nat.{ℕ, suc, ◌+◌, ◌≤◌, ◌<◌}
use mathlib.Core.Path.{◌≡◌, refl, sym, ap}
use mathlib.Core.Bool.{true}
use mathlib.Core.List.{List}
use mathlib.Core.Option.{Option, none, some}
use native.Mathlib.Omega.{arith}
use lib.ListN.{length, drop}
use Rattle.std.specs.Prelude.{Result, Ok, Err, Some, None}
use Rattle.std.specs.Prelude as std
use Rattle.rules.specs.Bytes.{opens, Command, Front, unknown, cut, whole}
use Rattle.refusals.specs.declared.Refusal.{Refusal}
use Rattle.refusals.specs.declared.Refusal.TheVariants.{UnknownCommand, CutShort}
use Rattle.refusals.specs.declared.Refused.{Refused}
use Rattle.wire.specs.Meaning.{front_in}
use Rattle.state.specs.declared.Answer.{Answer}
use Rattle.state.specs.declared.Session.{Session}
use Rattle.state.specs.View.{tables, advanced}
use Rattle.state.specs.Lent.{Moves, Keeps}
use Rattle.tally.specs.declared.Tally.{Tally}
use Rattle.tally.specs.Figures.{figures}
use Rattle.session.specs.declared.Reply.{Reply}
use Rattle.session.specs.Meaning.{reply_to, reply_in}
use Rattle.session.specs.Stepping.{Stepped, refused, sized, StepsBy, StepsAt}
use Rattle.session.specs.Looping.{Looping}
use Rattle.session.specs.Carried.{Carried}
use Rattle.session.proofs.Needs as needs

-- ---- By what stands there

clash : {P : Type 0} {r : std.Option (Answer × ℕ)} {e : Refused} → ◌≡◌ {A = Stepped} (Ok r) (Err e) → P
clash e = absurd (let z : ◌≡◌ {A = ℕ} 0 1 = cc in omega arith)

some_none : {P : Type 0} {a : Answer × ℕ} → ◌≡◌ {A = Stepped} (Ok (Some a)) (Ok None) → P
some_none e = absurd (let z : ◌≡◌ {A = ℕ} 0 1 = cc in omega arith)

module _ (b : List ℕ) (p : ℕ) (x x' : Session) {P : Type 0} where
  -- an answer is a whole command's
  pub on_answer : {a : Answer} {z : ℕ} → StepsAt b p x x' (Ok (Some (a, z)))
      → ((c : Command) (w : ℕ) → front_in (drop p b) ≡ some (whole c w) → z ≡ suc w → Moves x c x' (Ok a) → Keeps x x' → P) → P
  on_answer {a} {z} s on = go (front_in (drop p b)) refl s
    where
      by : (c : Command) (w : ℕ) (t : Result Answer Refusal) → front_in (drop p b) ≡ some (whole c w) → ◌≡◌ {A = Stepped} (Ok (Some (a, z))) (sized p (suc w) t) → Moves x c x' t → Keeps x x' → P
      by c w (Ok d) f e m k =
          let q : ◌≡◌ {A = Answer × ℕ} (a, z) (d, suc w) = cc in
          on c w f (ap (λ (u : Answer × ℕ). u.1) q) (rw (sym (ap (λ (u : Answer × ℕ). u.0) q)) at m) k
      by c w (Err r) f e m k = clash e

      go : (f : Option Front) → front_in (drop p b) ≡ f → StepsBy p f x x' (Ok (Some (a, z))) → P
      go none f t = some_none t.0
      go (some unknown) f t = clash t.0
      go (some cut) f t = clash t.0
      go (some (whole c w)) f t = by c w t.0 f t.1 t.2 t.3

  pub on_end : StepsAt b p x x' (Ok None) → (front_in (drop p b) ≡ none → tables x' ≡ tables x → P) → P
  on_end s on = go (front_in (drop p b)) refl s
    where
      by : (w : ℕ) (t : Result Answer Refusal) → ◌≡◌ {A = Stepped} (Ok None) (sized p (suc w) t) → P
      by w (Ok d) e = some_none (sym e)
      by w (Err r) e = clash e

      go : (f : Option Front) → front_in (drop p b) ≡ f → StepsBy p f x x' (Ok None) → P
      go none f t = on f t.1
      go (some unknown) f t = clash t.0
      go (some cut) f t = clash t.0
      go (some (whole c w)) f t = by w t.0 t.1

  -- a refusal is 2, 3 or a whole command's
  pub on_refusal : {r : Refused} → StepsAt b p x x' (Err r)
      → (front_in (drop p b) ≡ some unknown → r ≡ record { place = p; why = UnknownCommand } → tables x' ≡ tables x → P)
      → (front_in (drop p b) ≡ some cut → r ≡ record { place = p; why = CutShort } → tables x' ≡ tables x → P)
      → ((c : Command) (w : ℕ) (y : Refusal) → front_in (drop p b) ≡ some (whole c w) → r ≡ record { place = p; why = y } → Moves x c x' (Err y) → Keeps x x' → P) → P
  on_refusal {r} s on_unknown on_cut on_whole = go (front_in (drop p b)) refl s
    where
      same : {y : Refusal} → ◌≡◌ {A = Stepped} (Err r) (refused p y) → r ≡ record { place = p; why = y }
      same e = cc

      by : (c : Command) (w : ℕ) (t : Result Answer Refusal) → front_in (drop p b) ≡ some (whole c w) → ◌≡◌ {A = Stepped} (Err r) (sized p (suc w) t) → Moves x c x' t → Keeps x x' → P
      by c w (Ok d) f e m k = clash (sym e)
      by c w (Err y) f e m k = on_whole c w y f (same e) m k

      go : (f : Option Front) → front_in (drop p b) ≡ f → StepsBy p f x x' (Err r) → P
      go none f t = clash (sym t.0)
      go (some unknown) f t = on_unknown f (same t.0) t.1
      go (some cut) f t = on_cut f (same t.0) t.1
      go (some (whole c w)) f t = by c w t.0 f t.1 t.2 t.3

-- a whole command's own result
pub steps_whole : (b : List ℕ) (p : ℕ) (x x' : Session) {c : Command} {w : ℕ} (s : Result Answer Refusal) → front_in (drop p b) ≡ some (whole c w) → Moves x c x' s → Keeps x x' → StepsAt b p x x' (sized p (suc w) s)
steps_whole b p x x' s f m k = rw f (s, refl, m, k)

-- ---- What is known afterwards

module _ {b : List ℕ} (o : opens b ≡ true) (x x' : Session) (m : x'.m ≡ x.m) {tally : Tally} {last : std.Option Reply} {p : ℕ} (v : Looping b x.m (tables x) tally last p) where
  module _ (a : Answer) (z : ℕ) (s : StepsAt b p x x' (Ok (Some (a, z)))) where
    pub fits : p + z ≤ length b
    fits = on_answer b p x x' {a = a} {z = z} s (λ c w f j y k. rw j (needs.fits o v f))

    pub has_size : 0 < z
    has_size = on_answer b p x x' {P = 0 < z} {a = a} {z = z} s (λ c w f j y k. omega arith)

    pub goes_on : {t : Tally} → figures t ≡ advanced (figures tally) a → Looping b x'.m (tables x') t (Some (reply_to a)) (p + z)
    goes_on {t} e = on_answer b p x x' {a = a} {z = z} s (λ c w f j y k. rw j (needs.goes_on o v f (k v.fit) y e))

  module _ {l : std.Option Answer} (e : reply_in l ≡ last) where
    pub ends : StepsAt b p x x' (Ok None) → Carried b x'.m (tables x') (record { tally = tally; last = l; stop = Ok tt })
    ends s = on_end b p x x' s (λ f t. rw (m, t) (needs.at_end o v e f))

    pub stops : {r : Refused} → StepsAt b p x x' (Err r) → Carried b x'.m (tables x') (record { tally = tally; last = l; stop = Err r })
    stops {r} s =
        on_refusal b p x x' {r = r} s (λ f i t. rw (i, m, t) (needs.at_unknown o v e f)) (λ f i t. rw (i, m, t) (needs.at_cut o v e f))
        (λ c w y f i n k. rw i (needs.stops o v f (k v.fit) n e))
