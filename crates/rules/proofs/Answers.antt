-- Every command's answer is the answer call's of the session cut behind it. A session is taken as what has been read, `pre`, and the bytes behind
-- it: what the accepted commands of `pre` lead to does not hang on these bytes, so that the cut session and the whole one go the same way.
use Prim.Native.Nat.{ℕ, zero, suc, ◌+◌, ◌≤◌}
use mathlib.Core.Path.{◌≡◌, refl, sym, ap, ◌∙◌}
use mathlib.Core.Bool.{Bool, true, ◌&&◌}
use mathlib.Core.List.{List, [], ◌∷◌, ◌++◌, map, append_assoc, append-nil}
use mathlib.Core.Option.{Option, none, some}
use native.Mathlib.Nat.{add-zero, add-suc, suc-add}
use native.Mathlib.Omega.{arith}
use borrow.Author.Tests.{le-ltb, ltb-false, le-leb, leb-true}
use lib.Dec.{ltb, leb}
use lib.ListN.{length, take, drop, length-append, length-drop, take-append-drop, get_or-append}
use lib.Seq.{length-take-le, take-append-le, drop-append-le, take-append-add, take_at, drop_at, take_all, get_or-take}
use Rattle.rules.specs.Sizes.{max_session}
use Rattle.rules.specs.Bytes.{Header, byte, header, header_size, in_range, opens, Operand, width, widths, values, Command, Form, Front, unknown, cut, whole, front_by, front, form_of, commands, Step, ended, stopped, Reading, more, read_from, reading}
use Rattle.rules.specs.State.{State, fresh}
use Rattle.rules.specs.Steps.{Checked, pass, refuse, check, effect, answer, Ran, run}
use Rattle.rules.specs.Calls.{stop_by, step_at, Reply, no_command, answers, refusal, reply}
use Rattle.rules.specs.Answers.{replies, session_replies, stop_end, EachPrefix}
use Rattle.rules.proofs.Table.{bool, and_l, and_r}
use Rattle.rules.proofs.Accepted.{run_accepts, run_refuses}
use Rattle.rules.proofs.Sessions.{Final, commands_of, final, final_ends, final_accepts, final_refuses, session_final, reply_of, reply_final, stop_final}

-- ---- Reading on

-- operand bytes are passed over
pub skip : (n p : ℕ) (bs : List ℕ) → read_from n p bs ≡ read_from 0 (p + n) (drop n bs)
unfolding read_from
skip zero p bs = rw add-zero
skip (suc n) p [] = refl
skip (suc n) p (b ∷ bs) = rw (add-suc, ← suc-add p n) (skip n (suc p) bs)

-- operands hang on their own bytes alone
values_front : (os : List Operand) (bs tail : List ℕ) → widths os ≤ length bs → values os (bs ++ tail) ≡ values os bs
values_front [] bs tail h = refl
values_front (o ∷ os) bs tail h =
    rw (take-append-le (width o) bs tail (omega arith), drop-append-le (width o) bs tail (omega arith), values_front os (drop (width o) bs) tail (omega (arith, length-drop (width o) bs)))

module _ (bs : List ℕ) (c : Command) (w : ℕ) where
  -- a whole command's operands are there
  whole_fits : (o : Option Form) → front_by o bs ≡ whole c w → w ≤ length bs
  whole_fits none e = absurd (let z : ◌≡◌ {A = ℕ} 0 1 = cc in omega arith)
  whole_fits (some f) e =
      bool (ltb (length bs) (widths f.operands))
      (λ y. let r : cut ≡ whole c w = rw y at e in absurd (let z : ◌≡◌ {A = ℕ} 0 1 = cc in omega arith))
      (λ y. let r : whole (f.command (values f.operands bs)) (widths f.operands) ≡ whole c w = rw y at e in
      let z : widths f.operands ≡ w = cc in
      omega (arith, ltb-false (length bs) (widths f.operands) y))

  -- it stands there whatever follows them
  whole_front : (o : Option Form) → front_by o bs ≡ whole c w → (tail : List ℕ) → front_by o (take w bs ++ tail) ≡ whole c w
  whole_front none e tail = absurd (let z : ◌≡◌ {A = ℕ} 0 1 = cc in omega arith)
  whole_front (some f) e tail =
      bool (ltb (length bs) (widths f.operands))
      (λ y. let r : cut ≡ whole c w = rw y at e in absurd (let z : ◌≡◌ {A = ℕ} 0 1 = cc in omega arith))
      (λ y. let r : whole (f.command (values f.operands bs)) (widths f.operands) ≡ whole c w = rw y at e in
      let z : widths f.operands ≡ w = cc in
      let l = length-take-le w bs (omega (arith, ltb-false (length bs) (widths f.operands) y)) in
      let long : widths f.operands ≤ length (take w bs ++ tail) = omega (arith, length-append (take w bs) tail) in
      let same : values f.operands (take w bs ++ tail) ≡ values f.operands bs =
      values_front f.operands (take w bs) tail (omega arith)
      ∙ sym (values_front f.operands (take w bs) (drop w bs) (omega arith))
      ∙ rw (take-append-drop w bs) in
      rw (le-ltb (length (take w bs ++ tail)) (widths f.operands) long, same) r)

module _ (p x : ℕ) (bs : List ℕ) (c : Command) (w : ℕ) (e : front x bs ≡ whole c w) where
  abbrev here : Step
  here = record { offset = p; size = suc w; command = c }

  operands_long : length (take w bs) ≡ w
  operands_long = length-take-le w bs (whole_fits bs c w (form_of x commands) e)

  reads_whole : (tail : List ℕ) → read_from 0 p (x ∷ (take w bs ++ tail)) ≡ more here (read_from 0 (p + suc w) tail)
  unfolding read_from
  reads_whole tail =
      let q : suc p + w ≡ p + suc w = omega arith in
      rw (whole_front bs c w (form_of x commands) e tail, skip w (suc p) (take w bs ++ tail), drop_at (take w bs) tail w operands_long, q)

-- ---- What has been read

-- with whatever bytes behind it that keep to the size n: the session opens, and goes on from state s, after a command with answer `last`
record Onward (n : ℕ) (pre : List ℕ) (s : State) (last : Reply) : Type 0 where
  opened : (tail : List ℕ) → length (pre ++ tail) ≤ n → opens (pre ++ tail) ≡ true
  same : (tail : List ℕ) → session_final (pre ++ tail) ≡ final s last (read_from 0 (length pre) tail)

module _ (n : ℕ) (pre : List ℕ) (s : State) (last : Reply) (v : Onward n pre s last) where
  -- the answer of the session that ends with these bytes
  answered_by : (tail : List ℕ) → length (pre ++ tail) ≤ n → {f : Final} → final s last (read_from 0 (length pre) tail) ≡ f → reply (pre ++ tail) ≡ reply_of f.stop f.last
  answered_by tail l e = reply_final (pre ++ tail) (v.opened tail l) ∙ rw (v.same tail, e)

  module _ (x : ℕ) (bs : List ℕ) (c : Command) (w : ℕ) (e : front x bs ≡ whole c w) where
    -- the command's own bytes are read too
    abbrev past : List ℕ
    past = pre ++ x ∷ take w bs

    past_long : length past ≡ length pre + suc w
    past_long = length-append pre (x ∷ take w bs) ∙ rw (operands_long (length pre) x bs c w e)

    past_on : (tail : List ℕ) → past ++ tail ≡ pre ++ x ∷ (take w bs ++ tail)
    past_on tail = append_assoc pre (x ∷ take w bs) tail

    goes_on : check s c ≡ pass → Onward n past (effect s c) (answers (answer s c))
    goes_on q = record {
      opened = λ tail l. rw (past_on tail) (v.opened (x ∷ (take w bs ++ tail)) (rw (past_on tail) at l));
      same = λ tail.
          ap session_final (past_on tail) ∙ v.same (x ∷ (take w bs ++ tail)) ∙ ap (final s last) (reads_whole (length pre) x bs c w e tail)
          ∙ final_accepts s last (here (length pre) x bs c w e) (read_from 0 (length pre + suc w) tail) q
          ∙ rw past_long;
    }

-- ---- The list

-- where the commands of reading r end, from state s on
abbrev ends_by : Ran → Reading → List ℕ
ends_by ran r = map (λ (c : Step). c.offset + c.size) (take (length ran.events) r.steps) ++ stop_end (stop_by ran.end (step_at r.steps (length ran.events)) r.stop)

abbrev ends_from : State → Reading → List ℕ
ends_from s r = ends_by (run s (commands_of r)) r

abbrev told_by : List ℕ → ℕ → Reply
told_by b n = reply (take n b)

abbrev Told : List ℕ → State → Reading → Type 0
Told b s r = replies s r.steps r.stop ≡ map (told_by b) (ends_from s r)

module _ (b : List ℕ) where
  -- a list that the reading ends
  stops : (s : State) (p m shown : ℕ) → told_by b (p + shown) ≡ refusal p m → Told b s (record { steps = []; stop = stopped p m shown })
  unfolding replies run
  stops s p m shown e = rw e

  module _ (s : State) (st : Step) (r : Reading) where
    -- one command's answer more
    accepts : check s st.command ≡ pass → told_by b (st.offset + st.size) ≡ answers (answer s st.command) → Told b (effect s st.command) r → Told b s (more st r)
    unfolding replies
    accepts e f h = rw (e, run_accepts s st.command (commands_of r) e, f, h)

    refuses : (m : ℕ) → check s st.command ≡ refuse m → told_by b (st.offset + st.size) ≡ refusal st.offset m → Told b s (more st r)
    unfolding replies
    refuses m e f = rw (e, run_refuses s st.command (commands_of r) m e, f)

-- an unknown command is one whatever follows it
unknown_front : (o : Option Form) (bs tail : List ℕ) → front_by o bs ≡ unknown → front_by o tail ≡ unknown
unknown_front none bs tail e = refl
unknown_front (some f) bs tail e =
    bool (ltb (length bs) (widths f.operands))
    (λ y. let r : cut ≡ unknown = rw y at e in absurd (let z : ◌≡◌ {A = ℕ} 0 1 = cc in omega arith))
    (λ y. let r : whole (f.command (values f.operands bs)) (widths f.operands) ≡ unknown = rw y at e in absurd (let z : ◌≡◌ {A = ℕ} 0 1 = cc in omega arith))

reads_unknown : (p x : ℕ) (bs : List ℕ) → front x bs ≡ unknown → read_from 0 p (x ∷ bs) ≡ record { steps = []; stop = stopped p 2 1 }
unfolding read_from
reads_unknown p x bs e = rw e

reads_cut : (p x : ℕ) (bs : List ℕ) → front x bs ≡ cut → read_from 0 p (x ∷ bs) ≡ record { steps = []; stop = stopped p 3 (suc (length bs)) }
unfolding read_from
reads_cut p x bs e = rw e

-- a command at the front of what is left; `on` has the answers behind it
module _ (b pre : List ℕ) (x : ℕ) (bs : List ℕ) (s : State) (last : Reply) (e : b ≡ pre ++ x ∷ bs) (v : Onward (length b) pre s last) where
  abbrev p : ℕ
  p = length pre

  long : length b ≡ p + suc (length bs)
  long = ap length e ∙ length-append pre (x ∷ bs)

  at_unknown : front x bs ≡ unknown → Told b s (read_from 0 p (x ∷ bs))
  at_unknown f =
      let there : take (p + 1) b ≡ pre ++ x ∷ [] = rw e (take-append-add pre (x ∷ bs) 1) in
      let fits : length (pre ++ x ∷ []) ≤ length b = omega (arith, length-append pre (x ∷ []), long) in
      let ends_so : final s last (read_from 0 p (x ∷ [])) ≡ record { state = s; stop = stopped p 2 1; last = last } =
      ap (final s last) (reads_unknown p x [] (unknown_front (form_of x commands) bs [] f)) ∙ final_ends s last (stopped p 2 1) in
      rw (reads_unknown p x bs f) (stops b s p 2 1 (ap reply there ∙ answered_by (length b) pre s last v (x ∷ []) fits ends_so))

  at_cut : front x bs ≡ cut → Told b s (read_from 0 p (x ∷ bs))
  at_cut f =
      let there : take (p + suc (length bs)) b ≡ pre ++ x ∷ bs = take_all (p + suc (length bs)) b (omega (arith, long)) ∙ e in
      let fits : length (pre ++ x ∷ bs) ≤ length b = omega (arith, length-append pre (x ∷ bs), long) in
      let ends_so : final s last (read_from 0 p (x ∷ bs)) ≡ record { state = s; stop = stopped p 3 (suc (length bs)); last = last } =
      ap (final s last) (reads_cut p x bs f) ∙ final_ends s last (stopped p 3 (suc (length bs))) in
      rw (reads_cut p x bs f) (stops b s p 3 (suc (length bs)) (ap reply there ∙ answered_by (length b) pre s last v (x ∷ bs) fits ends_so))

  module _ (c : Command) (w : ℕ) (f : front x bs ≡ whole c w) where
    abbrev through : List ℕ
    through = past (length b) pre s last v x bs c w f

    abbrev onward : Reading
    onward = read_from 0 (p + suc w) (drop w bs)

    through_long : length through ≡ p + suc w
    through_long = past_long (length b) pre s last v x bs c w f

    splits : b ≡ through ++ drop w bs
    splits = e ∙ sym (past_on (length b) pre s last v x bs c w f (drop w bs) ∙ rw (take-append-drop w bs))

    reads_it : read_from 0 p (x ∷ bs) ≡ more (here p x bs c w f) onward
    reads_it = sym (ap (λ t. read_from 0 p (x ∷ t)) (take-append-drop w bs)) ∙ reads_whole p x bs c w f (drop w bs)

    cut_there : take (p + suc w) b ≡ through
    cut_there = ap (take (p + suc w)) splits ∙ take_at through (drop w bs) (p + suc w) through_long

    short : length (through ++ []) ≤ length b
    short = omega (arith, ap length splits, length-append through (drop w bs), length-append through [])

    accepted : check s c ≡ pass → Told b (effect s c) onward → Told b s (read_from 0 p (x ∷ bs))
    unfolding read_from
    accepted q h =
        let w' = goes_on (length b) pre s last v x bs c w f q in
        let r = answered_by (length b) through (effect s c) (answers (answer s c)) w' [] short (final_ends (effect s c) (answers (answer s c)) ended) in
        rw reads_it (accepts b s (here p x bs c w f) onward q (ap reply (cut_there ∙ sym (append-nil through)) ∙ r) h)

    refused : (m : ℕ) → check s c ≡ refuse m → Told b s (read_from 0 p (x ∷ bs))
    unfolding read_from
    refused m q =
        let tail_is : through ++ [] ≡ pre ++ x ∷ (take w bs ++ []) = past_on (length b) pre s last v x bs c w f [] in
        let stops_so : final s last (read_from 0 p (x ∷ (take w bs ++ []))) ≡ record { state = s; stop = stopped p m (suc w); last = last } =
        ap (final s last) (reads_whole p x bs c w f []) ∙ final_refuses s last (here p x bs c w f) (read_from 0 (p + suc w) []) m q in
        let r = answered_by (length b) pre s last v (x ∷ (take w bs ++ [])) (rw tail_is at short) stops_so in
        rw reads_it (refuses b s (here p x bs c w f) onward m q (ap reply (cut_there ∙ sym (append-nil through) ∙ tail_is) ∙ r))

-- from what has been read on, with at most `fuel` bytes to come
abbrev FromHere : (fuel : ℕ) → List ℕ → Type 0
FromHere fuel b = (pre bs : List ℕ) (s : State) (last : Reply) → length bs ≤ fuel → b ≡ pre ++ bs → Onward (length b) pre s last → Told b s (read_from 0 (length pre) bs)

told_from : (fuel : ℕ) (b pre bs : List ℕ) (s : State) (last : Reply) → length bs ≤ fuel → b ≡ pre ++ bs → Onward (length b) pre s last → Told b s (read_from 0 (length pre) bs)
unfolding read_from replies run
told_from zero b pre [] s last l e v = refl
told_from zero b pre (x ∷ bs) s last l e v = absurd (omega arith)
told_from (suc fuel) b pre [] s last l e v = refl
told_from (suc fuel) b pre (x ∷ bs) s last l e v = by_front (front x bs) refl (λ pre' bs' s' last' l' e' v'. told_from fuel b pre' bs' s' last' l' e' v')
  where
    by_check : (c : Command) (w : ℕ) → front x bs ≡ whole c w → (k : Checked) → check s c ≡ k → FromHere fuel b → Told b s (read_from 0 (length pre) (x ∷ bs))
    by_check c w f pass q on =
        accepted b pre x bs s last e v c w f q
        (rw (past_long (length b) pre s last v x bs c w f) at
        (on (past (length b) pre s last v x bs c w f) (drop w bs) (effect s c) (answers (answer s c)) (omega (arith, length-drop w bs)) (splits b pre x bs s last e v c w f) (goes_on (length b) pre s last v x bs c w f q)))
    by_check c w f (refuse m) q on = refused b pre x bs s last e v c w f m q

    by_front : (k : Front) → front x bs ≡ k → FromHere fuel b → Told b s (read_from 0 (length pre) (x ∷ bs))
    by_front unknown f on = at_unknown b pre x bs s last e v f
    by_front cut f on = at_cut b pre x bs s last e v f
    by_front (whole c w) f on = by_check c w f (check s c) refl on

-- ---- The header

-- a header stands whatever follows it
module _ (pre tail : List ℕ) (h : header_size pre ≡ length pre) where
  header_front : header (pre ++ tail) ≡ header pre
  header_front =
      let n : byte (pre ++ tail) 0 ≡ byte pre 0 = get_or-append pre tail 0 0 (omega arith) in
      let m : byte (pre ++ tail) 1 ≡ byte pre 1 = get_or-append pre tail 0 1 (omega arith) in
      let o : take (byte (pre ++ tail) 1) (drop 2 (pre ++ tail)) ≡ take (byte pre 1) (drop 2 pre) =
      rw (m, drop-append-le 2 pre tail (omega arith)) (take-append-le (byte pre 1) (drop 2 pre) tail (omega (arith, length-drop 2 pre))) in
      λ i. record { nodes = n i; sheets = m i; owner = byte (o i) }

  size_front : header_size (pre ++ tail) ≡ length pre
  size_front = ap (λ (g : Header). 2 + g.sheets) header_front ∙ h

three : {a b c : Bool} → a ≡ true → b ≡ true → c ≡ true → ((a && b) && c) ≡ true
three x y z = rw (x, y, z)

module _ (b : List ℕ) (o : opens b ≡ true) where
  abbrev heads : List ℕ
  heads = take (header_size b) b

  fits : header_size b ≤ length b
  fits = leb-true (header_size b) (length b) (and_r (leb (length b) max_session) _ (and_l (leb (length b) max_session && leb (header_size b) (length b)) _ o))

  within : length b ≤ max_session
  within = leb-true (length b) max_session (and_l (leb (length b) max_session) _ (and_l (leb (length b) max_session && leb (header_size b) (length b)) _ o))

  heads_long : header_size heads ≡ length heads
  heads_long = rw (get_or-take (header_size b) b 1 0 (omega arith), length-take-le (header_size b) b fits)

  heads_header : (tail : List ℕ) → header (heads ++ tail) ≡ header b
  heads_header tail = header_front heads tail heads_long ∙ sym (header_front heads (drop (header_size b) b) heads_long) ∙ ap header (take-append-drop (header_size b) b)

  heads_size : (tail : List ℕ) → header_size (heads ++ tail) ≡ header_size b
  heads_size tail = ap (λ (g : Header). 2 + g.sheets) (heads_header tail)

  starts : Onward (length b) heads (fresh (header b)) no_command
  starts = record {
    opened = λ tail l.
        three
        (le-leb (length (heads ++ tail)) max_session (omega (arith, within)))
        (le-leb (header_size (heads ++ tail)) (length (heads ++ tail)) (omega (arith, heads_size tail, length-append heads tail, length-take-le (header_size b) b fits)))
        (ap in_range (heads_header tail) ∙ and_r (leb (length b) max_session && leb (header_size b) (length b)) _ o);
    same = λ tail.
        let z = length-take-le (header_size b) b fits in
        ap (λ (g : Header). final (fresh g) no_command (reading (heads ++ tail))) (heads_header tail)
        ∙ ap (λ n. final (fresh (header b)) no_command (read_from 0 n (drop n (heads ++ tail)))) (heads_size tail ∙ sym z)
        ∙ ap (λ t. final (fresh (header b)) no_command (read_from 0 (length heads) t)) (drop_at heads tail (length heads) refl);
  }

pub each_prefix : (b : List ℕ) → EachPrefix b
unfolding session_replies final
each_prefix b o =
    (rw (length-take-le (header_size b) b (fits b o)) at
    (told_from (length (drop (header_size b) b)) b (heads b o) (drop (header_size b) b) (fresh (header b)) no_command (omega arith) (sym (take-append-drop (header_size b) b)) (starts b o)))
    ∙ rw (stop_final b o)
