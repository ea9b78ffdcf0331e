-- What a reading says of its pass: the clean double collect loads all words twice, and anew if a word has changed.
use Rattle.ucl_words.proofs.Common.{Access, AccessKind, AllByRecursion, AreWords, Collects, Continues, Entry, FindsAgain, FindsAnother, []}
use Rattle.ucl_words.proofs.Common.{Follows, IsClean, IsCollect, IsConsistent, IsReadFrom, IsUnclean, List, None, Option, Reading, versions}
use Rattle.ucl_words.proofs.Common.{ReadingAccesses, ReadingSteps, Second, SharedReading, Some, View, Walks, access, accesses_of, ap}
use Rattle.ucl_words.proofs.Common.{append-nil, append_assoc, arith, at_either, board_of, board_words, clean_shows, collect_more}
use Rattle.ucl_words.proofs.Common.{collect_none, collect_set, count_of, get_or-set_same, history_of, le_refl, length, length-append}
use Rattle.ucl_words.proofs.Common.{max_loads, max_version, none-some, pass_view_of, reading_of, reading_whole, refl, set, slice_get}
use Rattle.ucl_words.proofs.Common.{slice_index, subst, sym, take, take-append_seam, version_of, unclean_try}
use Rattle.ucl_words.proofs.Common.{versions_shown, ◌++◌, ◌+◌, ◌<◌, ◌∙◌, ◌∷◌, ◌≡◌, ◌≢◌, ◌≤◌, ℕ}
use Rattle.ucl_words.proofs.Steps.{LoadsMatch, again, walks_continue, walks_load, walks_none, walks_on}

-- a pass made so many loads of one collect, which found the first of these words
pub record Collected (kind : AccessKind) (v : View) (words : List ℕ) (count : ℕ) (w : View) : Type 0 where
  pub accesses : List Access
  pub walks : Walks v accesses w
  pub many : length accesses ≡ count
  pub words_are : IsCollect kind words accesses
  pub last : (m : Access) → slice_get accesses 11 ≡ Some m → m.length ≡ length (history_of w.log)

-- before the first load of a collect a consistent pass has found 0 words
pub collected_none : (kind : AccessKind) (v : View) (words : List ℕ) → IsConsistent v → Collected kind v words 0 v
collected_none kind v words consistent = record
    { accesses = []; walks = walks_none v consistent; many = refl; words_are = collect_none kind words; last = λ m e. absurd (none-some m e) }

-- one load more of a collect, of the next match
module _ (kind : AccessKind) (v x w : View) (words : List ℕ) (i n : ℕ) (below : i < 12) (was : Collected kind v words i x) (loads : LoadsMatch kind (i + 1) x n w) where
  abbrev new_access : Access
  new_access = access kind (i + 1) n loads.index (length (history_of w.log))

  pub more_walks : Walks v (was.accesses ++ new_access ∷ []) w
  more_walks = walks_on v x w was.accesses (new_access ∷ []) was.walks (walks_load kind (i + 1) n x w was.walks.consistent loads)

  more_last : (m : Access) → slice_get (was.accesses ++ new_access ∷ []) 11 ≡ Some m → m.length ≡ length (history_of w.log)
  more_last m e = search (arith, at_either)

  -- if its word is the one at its place in `now`, and the loads before found the first words of `now`, one more of them is found
  pub collected_more : (now : List ℕ) → IsCollect kind now was.accesses → n ≡ slice_index now i → Collected kind v now (i + 1) w
  collected_more now again is =
      let many = was.many in
      record {
        accesses = was.accesses ++ new_access ∷ [];
        walks = more_walks;
        many = omega (arith, length-append was.accesses (new_access ∷ []));
        words_are = collect_more kind now was.accesses new_access again (refl, ap (λ (k : ℕ). k + 1) (sym many)) (is ∙ ap (slice_index now) (sym many));
        last = more_last;
      }

  -- a first collect puts the word that it found among its words
  pub collected_set : length words ≡ 12 → Collected kind v (set words i n) (i + 1) w
  collected_set long =
      collected_more (set words i n) (collect_set kind words was.accesses i n (omega arith) was.words_are) (sym (get_or-set_same words i n 0 (omega arith)))

  -- a second collect compares it with the word of the first one: equal words go on
  pub collected_same : n ≡ slice_index words i → Collected kind v words (i + 1) w
  collected_same is = collected_more words was.words_are is

  -- a second collect that finds another word ends the try
  pub collected_other : n ≢ slice_index words i → kind ≡ Second → FindsAnother v words w
  collected_other other is = search (arith, more_walks)

  -- with the twelfth equal word all are found again
  pub finds_again : n ≡ slice_index words i → i ≡ 11 → kind ≡ Second → FindsAgain v words w
  finds_again same eleven is =
      let many = was.many in
      record {
        accesses = was.accesses ++ new_access ∷ [];
        walks = more_walks;
        twelve = omega (arith, length-append was.accesses (new_access ∷ []));
        again = subst (λ (a : AccessKind). IsCollect a words (was.accesses ++ new_access ∷ [])) is
            (collect_more kind words was.accesses new_access was.words_are (refl, ap (λ (k : ℕ). k + 1) (sym many)) (same ∙ ap (slice_index words) (sym many)));
      }

-- a pass made tries of a reading, none of them clean, from the view v to the view x
pub record Tried (v x : View) : Type 0 where
  pub tries : List (List Access)
  pub walks : Walks v (accesses_of tries) x
  pub unclean : AllByRecursion IsUnclean tries

-- a pass that is consistent has, before its first try of a reading, made no try
pub tried_none : (v : View) → IsConsistent v → Tried v v
tried_none v consistent = record { tries = []; walks = walks_none v consistent; unclean = tt }

-- the accesses of tries with one more at the end are those of the tries and then those of this one
accesses_next : (tries : List (List Access)) (ms : List Access) → accesses_of (tries ++ ms ∷ []) ≡ accesses_of tries ++ ms
accesses_next [] ms = append-nil ms
accesses_next (t ∷ tries) ms = ap (λ (l : List Access). t ++ l) (accesses_next tries ms) ∙ sym (append_assoc t (accesses_of tries) ms)

-- if no try is clean, and the next one is not, none of all is
unclean_next : (tries : List (List Access)) (ms : List Access) → AllByRecursion IsUnclean tries → IsUnclean ms → AllByRecursion IsUnclean (tries ++ ms ∷ [])
unclean_next [] ms all one = (one, tt)
unclean_next (t ∷ tries) ms all one = (all.0, unclean_next tries ms all.1 one)

-- one try more that was not clean: a first collect, and a second one that found another word
module _ (x u w : View) (words : List ℕ) (collects : Collects x words u) (another : FindsAnother u words w) where
  both_walks : Walks x (collects.accesses ++ another.accesses) w
  both_walks = walks_on x u w collects.accesses another.accesses collects.walks another.walks

  is_unclean : IsUnclean (collects.accesses ++ another.accesses)
  is_unclean = search arith

  -- the history grew during this try, and is no longer than a history can be
  pub tried_longer : (length (history_of x.log) < length (history_of w.log)) × (length (history_of w.log) ≤ max_version)
  tried_longer = search (
    arith,
    unclean_try (history_of w.log) (length (history_of x.log)) (length (history_of w.log)) (collects.accesses ++ another.accesses) both_walks.leaves.follows is_unclean,
    versions (history_of w.log) both_walks.consistent.sound.legal,
    is_unclean,
  )

  -- the try comes after those that were made before
  pub tried_again : (v : View) → Tried v x → Tried v w
  tried_again v tried = record {
    tries = tried.tries ++ (collects.accesses ++ another.accesses) ∷ [];
    walks = search (arith, accesses_next, walks_on, both_walks);
    unclean = unclean_next tried.tries (collects.accesses ++ another.accesses) tried.unclean is_unclean;
  }

-- all that is promised of a call that gave this reading: the pass had the view v before it and has w after it
pub record Reads (v : View) (reading : Reading) (w : View) : Type 0 where
  pub consistent : IsConsistent w
  pub always : Continues (pass_view_of v) (pass_view_of w)
  pub shared : SharedReading (pass_view_of v) reading (pass_view_of w)
  pub steps : ReadingSteps v reading w
  pub least : count_of v + 24 ≤ count_of w
  pub most : count_of w ≤ count_of v + max_loads

-- the access, or `m` if there is none
abbrev first_or : Access → Option Access → Access
first_or m (Some a) = a
first_or m None = m

-- accesses that follow a history from a length on follow it from the length at the first one
from_first : (h : List Entry) (low high : ℕ) (ms : List Access) (first : Access) → Follows h low ms high → slice_get ms 0 ≡ Some first → Follows h first.length ms high
from_first h low high [] first f at = absurd (none-some first at)
from_first h low high (m ∷ ms) first f at = subst (λ (a : Access). Follows h a.length (m ∷ ms) high) (ap (first_or m) at) (le_refl m.length, f.1, f.2)

-- the clean try: a first collect, and a second one that found all its words again
module _ (x u w : View) (words : List ℕ) (long : length words ≡ 12) (collects : Collects x words u) (again : FindsAgain u words w) where
  abbrev clean_reading : Reading
  clean_reading = record { board = words; version = length (history_of u.log) }

  clean_walks : Walks x (collects.accesses ++ again.accesses) w
  clean_walks = walks_on x u w collects.accesses again.accesses collects.walks again.walks

  is_clean : IsClean clean_reading (collects.accesses ++ again.accesses)
  is_clean = search arith

  -- what the pass had seen by the first collect is the front of what it has seen by the second
  front : take (length (history_of u.log)) (history_of w.log) ≡ history_of u.log
  front = let p = again.walks.on.seen in ap (take (length (history_of u.log))) (sym p.1) ∙ take-append_seam (history_of u.log) p.0

  -- the words are those of the board after that history
  words_seen : words ≡ board_of (history_of u.log)
  words_seen = (clean_shows (history_of w.log) (length (history_of x.log)) (length (history_of w.log)) clean_reading
      (collects.accesses ++ again.accesses) clean_walks.consistent.sound.legal clean_walks.leaves.follows is_clean).board
      ∙ ap board_of front

  pub are_words : AreWords words
  are_words = subst AreWords (sym words_seen) (board_words (history_of u.log) collects.walks.consistent.sound.legal)

  -- their version is its length
  version_seen : version_of words ≡ length (history_of u.log)
  version_seen = ap version_of words_seen ∙ (versions (history_of u.log) collects.walks.consistent.sound.legal).0

  module _ (v : View) (consistent : IsConsistent v) (tried : Tried v x) where
    abbrev all_accesses : List Access
    all_accesses = accesses_of tried.tries ++ (collects.accesses ++ again.accesses)

    all_walks : Walks v all_accesses w
    all_walks = walks_on v x w (accesses_of tried.tries) (collects.accesses ++ again.accesses) tried.walks clean_walks

    reading_accesses : ReadingAccesses clean_reading all_accesses
    unfolding is_clean
    reading_accesses = record { tries = tried.tries; last = collects.accesses ++ again.accesses; accesses = refl; unclean = tried.unclean; clean = is_clean }

    -- a reading, with all its accesses, is the board at its point, within the bounds of its tries
    whole : IsReadFrom (history_of w.log) (length (history_of v.log)) (length (history_of w.log)) clean_reading all_accesses reading_accesses
    whole = reading_whole (history_of w.log) (length (history_of v.log)) (length (history_of w.log)) clean_reading all_accesses all_walks.consistent.sound.legal
        (le_refl (length (history_of w.log))) all_walks.leaves.follows reading_accesses

    -- tries that were not clean, and then this one, are a reading, if its version was added to those shown
    reads_clean : versions_shown w.own ≡ versions_shown v.own ++ length (history_of u.log) ∷ [] → Reads v clean_reading w
    reads_clean shown =
        let taken = all_walks.leaves.taken in
        let steps = whole.steps.0 in
        let bound = whole.bound.1 in
        let few = whole.bound.0 in
        record {
          consistent = all_walks.consistent;
          always = walks_continue v w all_accesses all_walks;
          shared = search (arith, whole, all_walks, shown);
          steps = record {
            accesses = all_accesses;
            leaves = all_walks.leaves;
            collects = reading_accesses;
            few = omega arith;
            meanwhile = λ first at.
                let later = from_first (history_of w.log) (length (history_of v.log)) (length (history_of w.log)) all_accesses first all_walks.leaves.follows at in
                let tries = (reading_whole (history_of w.log) first.length (length (history_of w.log)) clean_reading all_accesses all_walks.consistent.sound.legal
                (le_refl (length (history_of w.log))) later reading_accesses).tries in
                omega arith;
          };
          least = omega arith;
          most = omega arith;
        }

    -- tries and then a clean one are the reading that has these words
    pub reads : (reading : Reading) → reading ≡ reading_of words → versions_shown w.own ≡ versions_shown v.own ++ version_of words ∷ [] → Reads v reading w
    reads reading is shown = subst (λ (r : Reading). Reads v r w) ((λ i. record { board = words; version = sym version_seen i }) ∙ sym is)
        (reads_clean (shown ∙ ap (λ (k : ℕ). versions_shown v.own ++ k ∷ []) version_seen))
