-- Every vote that counts has a good log, and a sync point within it. Assumes nothing.
use Prim.Native.Nat.{ℕ, ◌≤◌, ◌<◌}
use mathlib.Core.Path.{◌≡◌, refl}
use mathlib.Core.Bool.{Bool, true, false, ◌&&◌}
use mathlib.Core.Option.{Option, none, some}
use mathlib.Core.List.{List}
use native.Mathlib.Omega.{arith}
use lib.ListN.{length, get_or, set, replicate}
use lib.Dec.{leb}
use borrow.Author.Tests.{leb-true, le-leb}
use Rattle.octets.specs.Bytes.{num}
use Rattle.octets.proofs.Codecs.{All, length_items}
use Rattle.rules.specs.Choice.{pick, every, is_some, passes}
use Rattle.rules.specs.Log.{good_log}
use Rattle.rules.specs.Read.{entry_at}
use Rattle.rules.specs.State.{Vote, State, vote_good, kept_good, good}
use Rattle.rules.specs.Image.{state_of}
use Rattle.rules.specs.Step.{own_vote}
use Rattle.rules.specs.Rebuild.{with_normal}
use Rattle.rules.specs.declared.Shape.{Shape}
use Rattle.rules.proofs.Tests.{split, every_replicate}
use Rattle.rules.proofs.Choice.{and_left, and_right, and_both, all_map, all_at, every_all, all_every}
use Rattle.rules.proofs.KeptLaws.{every_set}
use Rattle.rules.proofs.Rebuilt.{counting_all}
use Rattle.ballots.specs.Ballots.{ballots, sent_log, votes_in, vote_of, Given}
use Rattle.ballots.specs.declared.Cast.{Cast}
use Rattle.ballots.proofs.Votes.{votes_long}

abbrev sound : ℕ → ℕ → Vote → Bool
sound s k v = good_log s k v.log && leb v.sync (length v.log)

kept_sound : (sh : Shape) (st : State) (x : Option Vote) → passes (vote_good sh st) x ≡ true → passes (sound sh.s st.site.group) x ≡ true
unfolding vote_good
kept_sound sh st none h = h
kept_sound sh st (some v) h =
    let t = and_right (good_log sh.s st.site.group v.log) _ h in
    and_both (good_log sh.s st.site.group v.log) _ (and_left (good_log sh.s st.site.group v.log) _ h) (and_left (leb v.sync (length v.log)) _ t)

module _ (sh : Shape) (st : State) (h : good sh st ≡ true) where
  own_sound : sound sh.s st.site.group (own_vote st) ≡ true
  unfolding good
  own_sound = let g = split _ h in and_both (good_log sh.s st.site.group st.logged.log) _ (g 0) (g 3)

  all_kept : every (passes (sound sh.s st.site.group)) st.change.votes ≡ true
  unfolding good kept_good
  all_kept =
      let g = split _ (split _ h 6) in
      all_every (passes (sound sh.s st.site.group)) st.change.votes
      (all_map (kept_sound sh st) st.change.votes (every_all (passes (vote_good sh st)) st.change.votes (g 0)))

module _ (sh : Shape) (b msg : List ℕ) (k : Cast) (g : Given sh b msg k) where
  abbrev st : State
  st = state_of sh b

  pub votes_sound : every (passes (sound sh.s st.site.group)) (votes_in sh b msg k) ≡ true
  unfolding votes_in ballots pick
  votes_sound =
      let l : length (sent_log msg k.at) ≡ num msg k.at 4 = length_items (entry_at msg) 24 _ (num msg k.at 4) in
      every_set (passes (sound sh.s st.site.group)) (pick k.entering _ st.change.votes) k.sender _ (go k.entering)
      (and_both (good_log sh.s st.site.group (sent_log msg k.at)) _ g.good (le-leb k.sync (length (sent_log msg k.at)) (omega (arith, g.within))))
    where
      go : (t : Bool) → every (passes (sound sh.s st.site.group)) (pick t (set (replicate sh.n none) st.site.replica (some (own_vote st))) st.change.votes) ≡ true
      go true = every_set (passes (sound sh.s st.site.group)) (replicate sh.n none) st.site.replica (some (own_vote st)) (every_replicate _ sh.n none refl) (own_sound sh st g.sent.stands.good)
      go false = all_kept sh st g.sent.stands.good

  -- each that counts
  pub lower_good : (top : ℕ) → All (λ v. good_log sh.s st.site.group v.log ≡ true) (with_normal top (votes_in sh b msg k))
  lower_good top =
      all_map (λ v h. and_left (good_log sh.s st.site.group v.log) _ h) (with_normal top (votes_in sh b msg k))
      (counting_all (sound sh.s st.site.group) top (votes_in sh b msg k) votes_sound)

  module _ (r : ℕ) (h : r < sh.n) where
    at_sound : passes (sound sh.s st.site.group) (get_or (votes_in sh b msg k) r none) ≡ true
    at_sound =
        let l : r < length (votes_in sh b msg k) = omega (arith, votes_long sh b msg k g.sent) in
        all_at (λ x. passes (sound sh.s st.site.group) x ≡ true) none (votes_in sh b msg k) (every_all (passes (sound sh.s st.site.group)) (votes_in sh b msg k) votes_sound) r l

    is_sound : (x : Option Vote) → is_some x ≡ true → passes (sound sh.s st.site.group) x ≡ true → sound sh.s st.site.group (vote_of x) ≡ true
    unfolding vote_of
    is_sound none s p = absurd (let z : ◌≡◌ {A = ℕ} 0 1 = cc in omega arith)
    is_sound (some v) s p = p

    pub vote_good_lem : is_some (get_or (votes_in sh b msg k) r none) ≡ true → good_log sh.s st.site.group (vote_of (get_or (votes_in sh b msg k) r none)).log ≡ true
    vote_good_lem s = and_left _ _ (is_sound (get_or (votes_in sh b msg k) r none) s at_sound)

    pub vote_synced : is_some (get_or (votes_in sh b msg k) r none) ≡ true → (vote_of (get_or (votes_in sh b msg k) r none)).sync ≤ length (vote_of (get_or (votes_in sh b msg k) r none)).log
    vote_synced s =
        let v = vote_of (get_or (votes_in sh b msg k) r none) in
        leb-true v.sync (length v.log) (and_right (good_log sh.s st.site.group v.log) _ (is_sound (get_or (votes_in sh b msg k) r none) s at_sound))
