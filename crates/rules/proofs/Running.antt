-- BEGIN, GIVE UP, READ and WRITE keep the invariant.
use Prim.Native.Nat.{ℕ, suc, ◌≤◌, ◌<◌}
use mathlib.Core.Path.{◌≡◌, refl, sym, ap, ◌∙◌, fun_ext}
use mathlib.Core.Bool.{Bool, true, false, ◌||◌, true≢false}
use mathlib.Core.Logic.{◌≢◌}
use mathlib.Core.Option.{Option, none, some}
use native.Mathlib.Omega.{arith}
use native.Mathlib.Nat.{le_refl}
use lib.ListN.{length}
use Rattle.rules.specs.Table.{upd, upd2, row, any}
use Rattle.rules.specs.Sizes.{max_saves}
use Rattle.rules.specs.Bytes.{Begin, Read, Write, GiveUp}
use Rattle.rules.specs.State.{Sheet, Phase, unused, first, submitted, second, committed, dropped, Mark, absent, copied, written, Claim, unclaimed, shared, exclusive, State, is_unused, is_second, is_committed, running, over, has_copy, is_written, claims, is_x, wider, wide_by, wide, at}
use Rattle.rules.specs.Steps.{read_mark, read_copy, effect, content_is}
use Rattle.rules.specs.Serial.{History, hear, enters, first_answer}
use Rattle.rules.proofs.Table.{bool, same?, same2?, clash, upd_same, upd_other, upd_at, upd2_at, upd2_same, upd2_other, row_at, any_cong, any_more}
use Rattle.rules.proofs.Places.{fold_own}
use Rattle.rules.proofs.Invariant.{closed, level, RunsOf, Sure, storing, stores, left_by, serial_at, Inv}
use Rattle.rules.proofs.Phases.{not_over, running_not_over, running_used, committed_locked, committed_placed, not_closed, runs_most, written_copied, not_applied, places_phase, copies_phase, locks_phase, values_phase, sheet_shown}

-- ---- BEGIN

pub keeps_begin : (s : State) (l : History) (r : ℕ → ℕ → Option ℕ) (t : ℕ) → Inv s l r → t < max_saves → s.phase t ≡ unused
    → Inv (effect s (Begin t)) (enters l t) (row r t (λ k. none))
keeps_begin s l r t v ht u = rw no_reads (record {
  places = places_phase t first ht (λ j. rw u at j) (λ y. absurd (true≢false (sym y))) v.places;
  copies = copies_phase t first refl (λ y. absurd (true≢false (sym y))) v.copies;
  locks = locks_phase t first (rw u) (λ w k x. absurd x) (λ w k y. absurd (true≢false (sym y))) v.locks;
  queues = v.queues;
  linked = record {
    order_same = v.linked.order_same;
    place_same = v.linked.place_same;
    claim_same = v.linked.claim_same;
    wide_same = λ x. same? x t (λ e. rw e (simp upd_same (λ z. absurd (true≢false (sym z))))) (λ n. simp upd_other (v.linked.wide_same x));
    mark_same = fun_ext (λ x. fun_ext (λ k. row_at (λ m. m ≡ s.mark x k) l.mark t (λ k. absent) x k (λ e. rw e (sym (none_yet k))) (λ _. ap (λ f. f x k) v.linked.mark_same)));
    runs_same = rw v.linked.runs_same;
    commit_same = λ x. upd_at (λ y. l.committed x ≡ is_committed y) s.phase t first x (λ e. rw (e, v.linked.commit_same t, u)) (λ _. v.linked.commit_same x);
    last_same = v.linked.last_same;
    runs_right = λ x. same? x t (λ e. rw e (simp upd_same (ap suc (rw u at (v.linked.runs_right t))))) (λ n. simp upd_other (v.linked.runs_right x));
    unread = v.linked.unread;
  };
  values = values_phase s l.applied r t first (upd s.runs t (suc (s.runs t))) _ (rw u) (λ k y c x. absurd x) (λ y. absurd (true≢false (sym y))) v.locks v.values;
})
  where
    none_yet : (k : ℕ) → s.mark t k ≡ absent
    none_yet k = v.copies.unused_absent t k (rw u)

    no_reads : row r t (λ k. none) ≡ r
    no_reads = fun_ext (λ x. fun_ext (λ k. row_at (λ o. o ≡ r x k) r t (λ k. none) x k (λ e. rw e (sym (v.linked.unread t k (rw (none_yet k))))) (λ _. refl)))

-- ---- GIVE UP

pub keeps_give_up : (s : State) (l : History) (r : ℕ → ℕ → Option ℕ) (t : ℕ) → Inv s l r → t < max_saves → running (s.phase t) ≡ true → Inv (effect s (GiveUp t)) l r
keeps_give_up s l r t v ht y = record {
  places = places_phase t dropped ht (λ _. refl) (λ y. absurd (true≢false (sym y))) v.places;
  copies = copies_phase t dropped refl (λ y. absurd (true≢false (sym y))) v.copies;
  locks = locks_phase t dropped end (λ w k x. absurd x) (λ w k y. absurd (true≢false (sym y))) v.locks;
  queues = v.queues;
  linked = record {
    order_same = v.linked.order_same;
    place_same = v.linked.place_same;
    claim_same = v.linked.claim_same;
    wide_same = λ x. upd_at (λ y. is_second y ≡ true → l.wide x ≡ wide s x) s.phase t dropped x (λ _ z. absurd (true≢false (sym z))) (λ _. v.linked.wide_same x);
    mark_same = v.linked.mark_same;
    runs_same = v.linked.runs_same;
    commit_same = λ x. upd_at (λ y. l.committed x ≡ is_committed y) s.phase t dropped x (λ e. rw (e, v.linked.commit_same t) (not_over (s.phase t) end)) (λ _. v.linked.commit_same x);
    last_same = v.linked.last_same;
    runs_right = λ x. upd_at (λ y. RunsOf y (s.runs x) (level s.header.sheets (s.claim x))) s.phase t dropped x (λ e. runs_most (s.phase x) (s.runs x) (level s.header.sheets (s.claim x)) (v.linked.runs_right x)) (λ n. v.linked.runs_right x);
    unread = v.linked.unread;
  };
  values = values_phase s l.applied r t dropped s.runs _ end (λ k y c x. absurd x) (λ y. absurd (true≢false (sym y))) v.locks v.values;
}
  where
    end : over (s.phase t) ≡ false
    end = running_not_over (s.phase t) y

-- ---- READ

-- what a READ leaves, by the mark that it meets
read_has : (m : Mark) → has_copy (read_mark m) ≡ true
read_has absent = refl
read_has copied = refl
read_has written = refl

read_written : (m : Mark) → is_written (read_mark m) ≡ is_written m
read_written absent = refl
read_written copied = refl
read_written written = refl

read_own : (m : Mark) (own o : Sheet) → has_copy m ≡ true → read_copy m own o ≡ own
read_own absent own o e = absurd (true≢false (sym e))
read_own copied own o e = refl
read_own written own o e = refl

read_behind : (m : Mark) (own o : Sheet) → (has_copy m ≡ true → own.wct ≤ o.wct) → (read_copy m own o).wct ≤ o.wct
read_behind absent own o h = le_refl o.wct
read_behind copied own o h = h refl
read_behind written own o h = h refl

read_current : (m : Mark) (own o : Sheet) (x : Option ℕ) → (has_copy m ≡ true → own.wct ≡ o.wct → x ≡ some o.content) → (has_copy m ≡ false → x ≡ none)
    → (read_copy m own o).wct ≡ o.wct → first_answer x (content_is (read_copy m own o).content) ≡ some o.content
read_current absent own o x h n e = rw (n refl)
read_current copied own o x h n e = rw (h refl e)
read_current written own o x h n e = rw (h refl e)

read_settled : (m : Mark) (own o : Sheet) (x : Option ℕ) (v : ℕ) → (has_copy m ≡ true → x ≡ some v) → (has_copy m ≡ false → x ≡ none)
    → o.content ≡ v → first_answer x (content_is (read_copy m own o).content) ≡ some v
read_settled absent own o x v h n e = rw (n refl) (ap some e)
read_settled copied own o x v h n e = rw (h refl)
read_settled written own o x v h n e = rw (h refl)

sure_second : (p : Phase) (f : Bool) (q m : ℕ) → running p ≡ true → Sure p f q m → p ≡ second
sure_second unused f q m r x = absurd x
sure_second first f q m r x = absurd x
sure_second submitted f q m r x = cc
sure_second second f q m r x = refl
sure_second committed f q m r x = cc
sure_second dropped f q m r x = absurd x

-- the history's word on a wide run, where t's mark of sheet k becomes m
touched : (s : State) (l : History) (r : ℕ → ℕ → Option ℕ) (t k : ℕ) (m : Mark) → Inv s l r → k < s.header.sheets → (wider (s.claim t k) (s.mark t k) ≡ true → wider (s.claim t k) m ≡ true)
    → (u : ℕ) → is_second (s.phase u) ≡ true → upd l.wide t (l.wide t || wider (s.claim t k) m) u ≡ wide_by s.header.sheets (s.claim u) (upd2 s.mark t k m u)
unfolding wide_by
touched s l r t k m v hk up u y = same? u t
    (λ e. rw (e, upd_same l.wide t (l.wide t || wider (s.claim t k) m)) (rw (v.linked.wide_same t (rw e at y)) (sym (grows (rw (upd2_same s.mark t k m) up) ∙ rw (upd2_same s.mark t k m)))))
    (λ d. rw (upd_other l.wide t (l.wide t || wider (s.claim t k) m) u d) (v.linked.wide_same u y ∙ any_cong s.header.sheets (λ j. wider (s.claim u j) (s.mark u j)) (λ j. wider (s.claim u j) (upd2 s.mark t k m u j))
    (λ j _. rw (upd2_other s.mark t k m u j (λ e _. d e)))))
  where
    f : ℕ → Bool
    f j = wider (s.claim t j) (s.mark t j)

    g : ℕ → Bool
    g j = wider (s.claim t j) (upd2 s.mark t k m t j)

    grows : (f k ≡ true → g k ≡ true) → any s.header.sheets g ≡ (any s.header.sheets f || g k)
    grows h = any_more s.header.sheets f g k hk (λ j d. rw (upd2_other s.mark t k m t j (λ _ z. d z))) h

read_wider : (c : Claim) (m : Mark) → wider c m ≡ true → wider c (read_mark m) ≡ true
read_wider c absent e = absurd (true≢false (sym e))
read_wider c copied e = e
read_wider c written e = e

write_wider : (c : Claim) (m : Mark) → wider c m ≡ true → wider c written ≡ true
write_wider c absent e = absurd (true≢false (sym e))
write_wider unclaimed copied e = refl
write_wider shared copied e = refl
write_wider exclusive copied e = e
write_wider c written e = e

module _ (s : State) (l : History) (r : ℕ → ℕ → Option ℕ) (t k : ℕ) (v : Inv s l r) (hk : k < s.header.sheets) (y : running (s.phase t) ≡ true) where
  abbrev m : Mark
  m = s.mark t k

  abbrev new : Sheet
  new = read_copy m (s.copy t k) (s.sheet k)

  abbrev s' : State
  s' = effect s (Read t k)

  abbrev r' : ℕ → ℕ → Option ℕ
  r' = upd2 r t k (first_answer (r t k) (content_is new.content))

  end : over (s.phase t) ≡ false
  end = running_not_over (s.phase t) y

  idle : is_committed (s.phase t) ≡ false
  idle = not_over (s.phase t) end

  -- a claimed sheet, as a save in its second run meets it: an X carried out there with a later place would have waited for t
  meets : s.phase t ≡ second → claims (s.claim t k) ≡ true → (s.sheet k).content ≡ (serial_at s k (s.place t)).content
  meets e c =
      let st = v.places.stands t (rw e) in
      ap (λ c. c.content) (sheet_shown s l.applied r (s.place t) k v.copies v.values (omega (arith, st.0))
      (λ u o _ x. v.locks.settled t u k (rw e tt) c o x)
      (λ u o cm x. bool (l.applied (s.header.owner k) u) (λ y. clash (l.applied (s.header.owner k) t)
      (same? (s.place u) (s.place t)
      (λ z. clash (is_committed (s.phase u)) cm (rw (sym (v.places.stands u (committed_placed (s.phase u) cm)).1 ∙ ap (at s.order) z ∙ st.1) idle))
      (λ z. v.locks.alone u t k (committed_locked (s.phase u) cm) x (omega arith) c))
      (not_applied t (s.header.owner k) end v.locks)) (λ y. y)))

  -- t stores nothing yet, so its copies do not matter
  same_left : (j p : ℕ) (f g : ℕ → Bool) → f t ≡ false → g t ≡ false → ((u : ℕ) → u ≢ t → f u ≡ g u) → left_by s' f j p ≡ left_by s g j p
  same_left j p f g a b h = fold_own s.order s.place f g (λ u. (s'.copy u j).content) (λ u. (s.copy u j).content) t p a b h
      (λ u n. ap (λ c. c.content) (upd2_other s.copy t k new u j (λ e _. n e)))

  pub keeps_read : Inv s' (hear l (Read t k) false) r'
  unfolding storing stores
  keeps_read = record {
    places = v.places;
    copies = record {
      copied_range = λ u j. upd2_at (λ m. has_copy m ≡ true → j < s.header.sheets) s.mark t k (read_mark m) u j (λ _ e _. rw e hk) (λ _. v.copies.copied_range u j);
      claim_range = v.copies.claim_range;
      copied_claimed = λ u j c. upd2_at (λ m. has_copy m ≡ true → claims (s.claim u j) ≡ true) s.mark t k (read_mark m) u j
          (λ e e' _. clash (closed (s.phase t)) (rw e at c) (not_closed (s.phase t) y)) (λ _. v.copies.copied_claimed u j c);
      written_x = λ u j c. upd2_at (λ m. is_written m ≡ true → is_x (s.claim u j) ≡ true) s.mark t k (read_mark m) u j
          (λ e e' w. rw (e, e') (v.copies.written_x t k (rw e at c) (sym (read_written m) ∙ w))) (λ _. v.copies.written_x u j c);
      unused_absent = λ u j z. upd2_at (λ m. m ≡ absent) s.mark t k (read_mark m) u j (λ e _. clash (is_unused (s.phase t)) (rw e at z) (running_used (s.phase t) y)) (λ _. v.copies.unused_absent u j z);
    };
    locks = v.locks;
    queues = v.queues;
    linked = record {
      order_same = v.linked.order_same;
      place_same = v.linked.place_same;
      claim_same = v.linked.claim_same;
      wide_same = rw (v.linked.claim_same, v.linked.mark_same) (touched s l r t k (read_mark m) v hk (read_wider (s.claim t k) m));
      mark_same = rw v.linked.mark_same;
      runs_same = v.linked.runs_same;
      commit_same = v.linked.commit_same;
      last_same = λ u j. same2? u t j k
          (λ e e'. rw (e, e') (simp upd2_same (λ w. let w' = sym (read_written m) ∙ w in v.linked.last_same t k w' ∙ ap (λ c. c.content) (sym (read_own m (s.copy t k) (s.sheet k) (written_copied m w'))))))
          (λ n. simp upd2_other (v.linked.last_same u j));
      runs_right = v.linked.runs_right;
      unread = λ u j. same2? u t j k (λ e e'. rw (e, e') (simp upd2_same (λ z. clash (has_copy (read_mark m)) (read_has m) z))) (λ n. simp upd2_other (v.linked.unread u j));
    };
    values = record {
      sheet_is = λ j. v.values.sheet_is j ∙ sym (same_left j (length s.order) (storing s' l.applied j) (storing s l.applied j) (rw idle) (rw idle)
          (λ u n. rw (upd2_other s.mark t k (read_mark m) u j (λ e _. n e))));
      behind = λ u j. same2? u t j k
          (λ e e'. rw (e, e') (simp upd2_same (λ _. read_behind m (s.copy t k) (s.sheet k) (v.values.behind t k))))
          (λ n. simp upd2_other (v.values.behind u j));
      current = λ u j. same2? u t j k
          (λ e e'. rw (e, e') (simp upd2_same (λ _. read_current m (s.copy t k) (s.sheet k) (r t k) (v.values.current t k) (v.linked.unread t k))))
          (λ n. simp upd2_other (v.values.current u j));
      reads = λ u j z c w. same2? u t j k
          (λ e e'. rw (e, e', upd2_same r t k (first_answer (r t k) (content_is new.content))) (read_settled m (s.copy t k) (s.sheet k) (r t k) (serial_at s k (s.place t)).content
          (λ b. v.values.reads t k b (rw (e, e') at c) (rw (e, e') at w)) (v.linked.unread t k)
          (meets (sure_second (s.phase t) _ _ _ y (rw (e, e') at w)) (rw (e, e') at c))))
          (λ n. rw (upd2_other r t k (first_answer (r t k) (content_is new.content)) u j n) (v.values.reads u j (rw (upd2_other s.mark t k (read_mark m) u j n) at z) c w))
          ∙ sym (ap (λ c. some c.content) (same_left j (s.place u) (stores s' j) (stores s j) (rw idle) (rw idle) (λ u n. rw (upd2_other s.mark t k (read_mark m) u j (λ e _. n e)))));
    };
  }

-- ---- WRITE

module _ (s : State) (l : History) (r : ℕ → ℕ → Option ℕ) (t k x : ℕ) (v : Inv s l r) (y : running (s.phase t) ≡ true)
    (c7 : has_copy (s.mark t k) ≡ true) where
  abbrev w' : State
  w' = effect s (Write t k x)

  abbrev own : Sheet
  own = record { content = x; wct = (s.copy t k).wct }

  resting : is_committed (s.phase t) ≡ false
  resting = not_over (s.phase t) (running_not_over (s.phase t) y)

  same_left_w : (j p : ℕ) (f g : ℕ → Bool) → f t ≡ false → g t ≡ false → ((u : ℕ) → u ≢ t → f u ≡ g u) → left_by w' f j p ≡ left_by s g j p
  same_left_w j p f g a b h = fold_own s.order s.place f g (λ u. (w'.copy u j).content) (λ u. (s.copy u j).content) t p a b h
      (λ u n. ap (λ c. c.content) (upd2_other s.copy t k own u j (λ e _. n e)))

  pub keeps_write : Inv w' (hear l (Write t k x) false) r
  unfolding storing stores
  keeps_write = record {
    places = v.places;
    copies = record {
      copied_range = λ u j. upd2_at (λ m. has_copy m ≡ true → j < s.header.sheets) s.mark t k written u j (λ _ e _. rw e (v.copies.copied_range t k c7)) (λ _. v.copies.copied_range u j);
      claim_range = v.copies.claim_range;
      copied_claimed = λ u j c. upd2_at (λ m. has_copy m ≡ true → claims (s.claim u j) ≡ true) s.mark t k written u j
          (λ e e' _. rw (e, e') (v.copies.copied_claimed t k (rw e at c) c7)) (λ _. v.copies.copied_claimed u j c);
      written_x = λ u j c. upd2_at (λ m. is_written m ≡ true → is_x (s.claim u j) ≡ true) s.mark t k written u j
          (λ e e' _. clash (closed (s.phase t)) (rw e at c) (not_closed (s.phase t) y)) (λ _. v.copies.written_x u j c);
      unused_absent = λ u j z. upd2_at (λ m. m ≡ absent) s.mark t k written u j (λ e _. clash (is_unused (s.phase t)) (rw e at z) (running_used (s.phase t) y)) (λ _. v.copies.unused_absent u j z);
    };
    locks = v.locks;
    queues = v.queues;
    linked = record {
      order_same = v.linked.order_same;
      place_same = v.linked.place_same;
      claim_same = v.linked.claim_same;
      wide_same = rw v.linked.claim_same (touched s l r t k written v (v.copies.copied_range t k c7) (write_wider (s.claim t k) (s.mark t k)));
      mark_same = rw v.linked.mark_same;
      runs_same = v.linked.runs_same;
      commit_same = v.linked.commit_same;
      last_same = λ u j. same2? u t j k (λ e e'. rw (e, e') (simp upd2_same (λ _. refl))) (λ n. simp upd2_other (v.linked.last_same u j));
      runs_right = v.linked.runs_right;
      unread = λ u j. same2? u t j k (λ e e'. rw (e, e') (simp upd2_same (λ z. absurd (true≢false z)))) (λ n. simp upd2_other (v.linked.unread u j));
    };
    values = record {
      sheet_is = λ j. v.values.sheet_is j ∙ sym (same_left_w j (length s.order) (storing w' l.applied j) (storing s l.applied j) (rw resting) (rw resting)
          (λ u n. rw (upd2_other s.mark t k written u j (λ e _. n e))));
      behind = λ u j. same2? u t j k (λ e e'. rw (e, e') (simp upd2_same (λ _. v.values.behind t k c7))) (λ n. simp upd2_other (v.values.behind u j));
      current = λ u j. same2? u t j k (λ e e'. rw (e, e') (simp upd2_same (λ _. v.values.current t k c7))) (λ n. simp upd2_other (v.values.current u j));
      reads = λ u j z c w. v.values.reads u j (had u j z) c w
          ∙ sym (ap (λ c. some c.content) (same_left_w j (s.place u) (stores w' j) (stores s j) (rw resting) (rw resting) (λ u n. rw (upd2_other s.mark t k written u j (λ e _. n e)))));
    };
  }
    where
      had : (u j : ℕ) → has_copy (w'.mark u j) ≡ true → has_copy (s.mark u j) ≡ true
      had u j = same2? u t j k (λ e e' _. rw (e, e') c7) (λ n. simp upd2_other (λ z. z))
