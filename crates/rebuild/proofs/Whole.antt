-- The prefix, and what every vote adds to it, is the rebuilt log. Assumes nothing.
use Prim.Native.Nat.{ℕ, suc, ◌+◌, ◌*◌, ◌-◌, ◌≤◌, ◌<◌}
use mathlib.Core.Path.{◌≡◌, refl, sym, ap, subst, ◌∙◌}
use mathlib.Core.Bool.{Bool, true, false, ◌&&◌, not}
use mathlib.Core.Option.{Option, none}
use mathlib.Core.List.{List, [], ◌∷◌, ◌++◌, append_assoc, append-nil}
use native.Mathlib.Omega.{arith}
use lib.ListN.{length, get_or, take, drop, length-append, take-append-drop}
use lib.Seq.{length-take-le, get_or-take}
use lib.Dec.{eqb}
use borrow.Author.Tests.{not-true, not-false}
use Rattle.octets.specs.Bytes.{items}
use Rattle.octets.proofs.Codecs.{All}
use Rattle.rules.specs.Choice.{pick, keep}
use Rattle.rules.specs.Entry.{no_entry, entry_of, place_all, ordered, last_before}
use Rattle.rules.specs.Log.{last_of, follows_last, good_log}
use Rattle.rules.specs.Read.{entry_at}
use Rattle.rules.specs.State.{Vote}
use Rattle.rules.specs.Image.{table_bytes, table_at}
use Rattle.rules.specs.Rebuild.{top_from, with_normal, best, prefix, boundary_in, holders, is_added, copies, added, rebuilt, boundary_of}
use Rattle.rules.specs.declared.Entry.{Entry}
use Rattle.rules.specs.declared.Shape.{Shape}
use Rattle.rules.proofs.Choice.{Pairs, pick_true, pick_false, and_left, all_map, pairs_map, kept_passes, keep_append}
use Rattle.rules.proofs.Order.{Sorted, before_asym, placed_behind, placed_append, ordered_length}
use Rattle.rules.proofs.Logs.{Rising, good_parts, after_last}
use Rattle.rules.proofs.Rebuilt.{counting_rising, prefix_good}
use Rattle.entries.specs.Table.{Holds}
use Rattle.entries.proofs.Table.{decoded, empty}
use Rattle.entries.proofs.Sorting.{length_placed}
use Rattle.ballots.specs.Ballots.{votes_in, vote_of, counts_at, Given, Lists, BestIn}
use Rattle.rebuild.specs.Rebuild.{Based, lower, is_new, new_from, Adds, Gives}
use Rattle.ballots.specs.declared.Best.{Best}
use Rattle.rebuild.specs.declared.Basis.{Basis}
use Rattle.rebuild.specs.declared.Count.{Count}
use Rattle.ballots.specs.declared.Cast.{Cast}
use Rattle.std.specs.Prelude.{Some, None}
use Rattle.ballots.proofs.Counting.{lower_next, lower_all}
use Rattle.ballots.proofs.Sound.{vote_synced}
use Rattle.rebuild.proofs.Holders.{listed_take}
use Rattle.rebuild.proofs.New.{prefix_none, prefix_is}
use Rattle.rebuild.proofs.Added.{sorted_on}

-- ---- what it starts from

module _ (n : ℕ) (vs : List (Option Vote)) (a : Count) (l : length vs ≡ n) (t : a.top ≡ top_from 0 vs) where
  module _ (k : best (with_normal a.top (take n vs)) ≡ vote_of none) where
    pub takes_none : (c : ℕ) (u : List ℕ) → c ≤ 4096 → u ≡ table_bytes c [] → Holds c (prefix (with_normal a.top vs)) u
    takes_none c u w q = rw (prefix_none n vs a.top l k) (empty c u q w)

    pub based_none : (x : Entry) → x ≡ no_entry → Based n vs (record { count = a; best = None; last = x })
    unfolding last_before
    based_none x q = record { top = t; best = k; last = q ∙ ap last_of (sym (prefix_none n vs a.top l k)) }

  module _ (b : Best) (k : BestIn n vs a.top n b) where
    pub takes_some : (c : ℕ) (log u : List ℕ) → Lists c (vote_of (get_or vs b.replica none)).log log → b.sync ≤ length (vote_of (get_or vs b.replica none)).log → Holds c (items (entry_at log) 24 4 b.sync) u → Holds c (prefix (with_normal a.top vs)) u
    takes_some c log u f w h = subst (λ (x : List Entry). Holds c x u) (listed_take c _ log f b.sync w ∙ sym (prefix_is n vs a.top l b k)) h

    last_of_lem : (es : List Entry) (m : ℕ) → m ≤ length es → 0 < m → entry_of es (m - 1) ≡ last_of (take m es)
    unfolding last_before
    last_of_lem es m h p =
        let e : length (take m es) ≡ suc (m - 1) = length-take-le m es h ∙ omega arith in
        sym (ap (last_before (entry_of (take m es))) e ∙ get_or-take m es (m - 1) no_entry (omega arith))

    pub based_some : (x : Entry) → b.sync ≤ length (vote_of (get_or vs b.replica none)).log → x ≡ entry_of (vote_of (get_or vs b.replica none)).log (b.sync - 1) → Based n vs (record { count = a; best = Some b; last = x })
    based_some x w q =
        let es = (vote_of (get_or vs b.replica none)).log in
        record {
          top = t;
          best = k;
          last = q ∙ last_of_lem es b.sync w k.some ∙ ap last_of (sym (prefix_is n vs a.top l b k));
        }

-- the prefix of a vote that is there
pub record Cut (c : ℕ) (es : List Entry) (t : List ℕ) (m : ℕ) : Type 0 where
  pub some : 0 < m
  pub within : m ≤ length es
  pub room : m ≤ c
  pub long : 4 + 24 * m ≤ length t

pub cut : (sh : Shape) (s msg : List ℕ) (a : Cast) (g : Given sh s msg a) (top : ℕ) (b : Best) → BestIn sh.n (votes_in sh s msg a) top sh.n b → (t : List ℕ) → Lists sh.c (vote_of (get_or (votes_in sh s msg a) b.replica none)).log t → Cut sh.c (vote_of (get_or (votes_in sh s msg a) b.replica none)).log t b.sync
cut sh s msg a g top b k t l =
    let w = vote_synced sh s msg a g b.replica k.within k.held in
    let e = k.sync in
    record { some = k.some; within = omega arith; room = omega (arith, l.room); long = omega (arith, l.size) }

-- ---- the copies, one replica more

copies_append : (lo xs ys : List Vote) → copies lo (xs ++ ys) ≡ copies lo xs ++ copies (lo ++ xs) ys
unfolding copies
copies_append lo [] ys = ap (λ (l : List Vote). copies l ys) (sym (append-nil lo))
copies_append lo (v ∷ xs) ys =
    let a = keep (λ e. eqb (holders lo e) 0) v.log in
    ap (λ (l : List Entry). a ++ l) (copies_append (lo ++ (v ∷ [])) xs ys ∙ ap (λ (l : List Vote). copies (lo ++ (v ∷ [])) xs ++ copies l ys) (append_assoc lo (v ∷ []) xs))
    ∙ sym (append_assoc a (copies (lo ++ (v ∷ [])) xs) (copies (lo ++ (v ∷ xs)) ys))

keep_keep : (p q : Entry → Bool) (xs : List Entry) → keep p (keep q xs) ≡ keep (λ x. p x && q x) xs
unfolding keep pick
keep_keep p q [] = refl
keep_keep p q (x ∷ xs) = go (p x) (q x) refl (keep_keep p q xs)
  where
    go : (a b : Bool) → p x ≡ a → keep p (keep q xs) ≡ keep (λ y. p y && q y) xs → keep p (pick b (x ∷ keep q xs) (keep q xs)) ≡ pick (a && b) (x ∷ keep (λ y. p y && q y) xs) (keep (λ y. p y && q y) xs)
    go true true e h = pick_true (p x) _ _ e ∙ ap (λ (l : List Entry). x ∷ l) h
    go true false e h = h
    go false true e h = pick_false (p x) _ _ e ∙ h
    go false false e h = h

module _ (n top : ℕ) (vs : List (Option Vote)) where
  abbrev ws : List Vote
  ws = with_normal top vs

  -- what the votes of replicas below r add
  abbrev pub added_below : ℕ → List Entry
  added_below r = keep (is_added n ws) (copies [] (lower top vs r))

  from_one : (r : ℕ) (a : Bool) (v : Vote) → keep (is_added n ws) (copies (lower top vs r) (pick a (v ∷ []) [])) ≡ pick a (keep (is_new n top vs r) v.log) []
  unfolding copies pick keep is_new
  from_one r true v = ap (keep (is_added n ws)) (append-nil (keep (λ e. eqb (holders (lower top vs r) e) 0) v.log)) ∙ keep_keep (is_added n ws) (λ e. eqb (holders (lower top vs r) e) 0) v.log
  from_one r false v = refl

  pub below_next : (r : ℕ) → r < length vs → added_below (r + 1) ≡ added_below r ++ new_from n top vs r
  unfolding new_from
  below_next r h =
      ap (λ (l : List Vote). keep (is_added n ws) (copies [] l)) (lower_next top vs r h)
      ∙ ap (keep (is_added n ws)) (copies_append [] (lower top vs r) _)
      ∙ keep_append (is_added n ws) (copies [] (lower top vs r)) _
      ∙ ap (λ (l : List Entry). added_below r ++ l) (from_one r (counts_at top (get_or vs r none)) (vote_of (get_or vs r none)))

  pub below_within : (r : ℕ) → length (added_below r) ≤ length (keep (is_added n ws) (copies [] ws))
  below_within r =
      let e : ws ≡ lower top vs r ++ with_normal top (drop r vs) = ap (with_normal top) (sym (take-append-drop r vs)) ∙ counting_rising top (take r vs) (drop r vs) in
      let f : keep (is_added n ws) (copies [] ws) ≡ added_below r ++ keep (is_added n ws) (copies (lower top vs r) (with_normal top (drop r vs))) =
      ap (λ (l : List Vote). keep (is_added n ws) (copies [] l)) e ∙ ap (keep (is_added n ws)) (copies_append [] (lower top vs r) _) ∙ keep_append (is_added n ws) (copies [] (lower top vs r)) _ in
      omega (arith, ap length f, length-append (added_below r) (keep (is_added n ws) (copies (lower top vs r) (with_normal top (drop r vs)))))

-- ---- the whole

pub whole_start : (c n top : ℕ) (vs : List (Option Vote)) (ps : List Entry) (t : List ℕ) → Holds c ps t → Holds c (place_all ps (added_below n top vs 0)) t
unfolding place_all keep copies with_normal
whole_start c n top vs ps t h = h

module _ (s g c n : ℕ) (vs : List (Option Vote)) (b : Basis) (l : length vs ≡ n) (k : Based n vs b) (good : All (λ v. good_log s g v.log ≡ true) (with_normal b.count.top vs)) where
  abbrev all : List Entry
  all = keep (is_added n (with_normal b.count.top vs)) (copies [] (with_normal b.count.top vs))

  abbrev front : List Entry
  front = prefix (with_normal b.count.top vs)

  rebuilt_is : rebuilt n vs ≡ front ++ ordered all
  unfolding rebuilt added
  rebuilt_is = ap (λ (t : ℕ). prefix (with_normal t vs) ++ added n (with_normal t vs)) (sym k.top)

  front_rises : Pairs Rising front
  front_rises = (good_parts s g front (prefix_good s g (with_normal b.count.top vs) good)).rises

  -- with what is put in order into it, it is sorted
  pub front_sorted : (xs : List Entry) (t : List ℕ) → Holds c (place_all front xs) t → Sorted (table_at c t 0)
  front_sorted xs t h = sorted_on c front xs t (pairs_map before_asym front front_rises) h

  all_behind : place_all front all ≡ front ++ ordered all
  all_behind =
      let d = all_map (λ e h. after_last front front_rises e (and_left (follows_last front e) _ h)) all (kept_passes (is_added n (with_normal b.count.top vs)) (copies [] (with_normal b.count.top vs))) in
      ap (λ (x : List Entry). place_all x all) (sym (append-nil front)) ∙ placed_behind front [] all d

  pub whole_end : (r : ℕ) (t : List ℕ) → n ≤ r → Holds c (place_all front (added_below n b.count.top vs r)) t → Gives c n vs t (Some b.last.stamp)
  unfolding Gives boundary_of
  whole_end r t h f =
      let e : added_below n b.count.top vs r ≡ all = ap (λ (x : List Vote). keep (is_added n (with_normal b.count.top vs)) (copies [] x)) (lower_all b.count.top vs r (omega arith)) in
      (subst (λ (x : List Entry). Holds c x t) (ap (place_all front) e ∙ all_behind ∙ sym rebuilt_is) f, ap (λ (x : Entry). x.stamp) k.last ∙ ap (λ (m : ℕ). boundary_in (with_normal m vs)) k.top)

  module _ (r : ℕ) (t u : List ℕ) (h : r < n) (f : Holds c (place_all front (added_below n b.count.top vs r)) t) (ok : Bool) (a : Adds c (table_at c t 0) (new_from n b.count.top vs r) u ok) where
    pub whole_turn : not ok ≡ false → Holds c (place_all front (added_below n b.count.top vs (r + 1))) u
    unfolding Adds
    whole_turn q =
        let d : Adds c (table_at c t 0) (new_from n b.count.top vs r) u true = subst (Adds c (table_at c t 0) (new_from n b.count.top vs r) u) (not-false ok q) a in
        let e : Holds c (place_all (place_all front (added_below n b.count.top vs r)) (new_from n b.count.top vs r)) u = subst (λ (x : List Entry). Holds c (place_all x (new_from n b.count.top vs r)) u) (decoded c _ t f) d in
        subst (λ (x : List Entry). Holds c x u) (sym (ap (place_all front) (below_next n b.count.top vs r (omega arith)) ∙ placed_append front (added_below n b.count.top vs r) _)) e

    pub whole_stop : not ok ≡ true → Gives c n vs u None
    unfolding Adds Gives
    whole_stop q =
        let d : Adds c (table_at c t 0) (new_from n b.count.top vs r) u false = subst (Adds c (table_at c t 0) (new_from n b.count.top vs r) u) (not-true ok q) a in
        let e : length (table_at c t 0) ≡ length front + length (added_below n b.count.top vs r) = ap length (decoded c _ t f) ∙ length_placed front (added_below n b.count.top vs r) in
        let m : length (added_below n b.count.top vs (r + 1)) ≡ length (added_below n b.count.top vs r) + length (new_from n b.count.top vs r) = ap length (below_next n b.count.top vs r (omega arith)) ∙ length-append (added_below n b.count.top vs r) _ in
        let w : length (rebuilt n vs) ≡ length front + length all = ap length rebuilt_is ∙ length-append front (ordered all) ∙ ap (λ (i : ℕ). length front + i) (ordered_length all) in
        let y = below_within n b.count.top vs (r + 1) in
        omega arith
