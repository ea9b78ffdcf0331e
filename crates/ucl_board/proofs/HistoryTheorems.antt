-- Histories: the entries of a match and the board after one entry more, the theorems, and prefixes of histories.
use Rattle.std.proofs.Common.{◌≡◌, ◌≢◌, ℕ, ◌+◌, ◌-◌, ◌<◌, Bool, cond, ◌==◌, List, [], ◌∷◌, ◌++◌, length, map, filter, get_or, set}
use Rattle.std.proofs.Common.{replicate, zero, suc, Option, Some, None, Ok, Err, refl, sym, ap, ◌∙◌, subst, arith, append-nil, eq-eqb, ne_eqb, ◌*◌}
use Rattle.std.proofs.Common.{◌≤◌, take, drop, length-append, slice_get, append_assoc, true, true≢false}
use Rattle.std.proofs.lemmas.List.{map-append, get_or-map, get_or-set_same, get_or-set_other, length-set, get_or_default, nil_from_length}
use Rattle.std.proofs.lemmas.List.{take-append-drop, take-take, take-append-le}
use Rattle.std.proofs.lemmas.List.Elements.{filter-append, All-cons, All-head, All-nil, All-tail}
use Rattle.std.proofs.lemmas.Grind.{same_number_lists}
use mathlib.Core.Logic.{dite}
use native.Mathlib.Decide.{ℕ_discrete, dec_le}
use Rattle.ucl_word.specs.declared.record.MatchRecord.{MatchRecord}
use Rattle.ucl_word.specs.declared.event.Kind.{Kind}
use Rattle.ucl_word.specs.declared.event.EventCall.{EventCall}
use Rattle.ucl_word.specs.declared.refusal.Refusal.{Refusal}
use Rattle.ucl_word.specs.Rules.{refusal_of, answer, reply_of, after}
use Rattle.ucl_word.specs.Record.{scheduled, IsValid, max_number}
use Rattle.ucl_word.specs.Layout.{word_of, record_at, IsWord}
use Rattle.ucl_word.specs.Counts.{MatchEntry, counted_match, IsAccepted, IsLegalMatch}
use Rattle.ucl_word.proofs.Sequences.{may_none, may_next, may_last, may_induction, may_begin, at_longer}
use Rattle.ucl_word.proofs.EntryCounts.{entered, legal_valid, number_of_count, counted}
use Rattle.ucl_word.proofs.Words.{record_back, word_valid, words_apart}
use Rattle.ucl_board.specs.declared.entry.Entry.{Entry}
use Rattle.ucl_board.specs.Fixtures.{match_numbers, IsMatch, IsSlot, Fixture, at, fixture_of}
use Rattle.ucl_board.specs.Words.{AreWords, word_at, game_at, before_words, version_of}
unfoldable use Rattle.ucl_board.specs.Words.{read_words}
use Rattle.ucl_board.specs.History.{of_match, entries_of, match_after, board_of, MayFollow, IsLegal, followed_by, sequential_reply}
use Rattle.ucl_board.specs.History.{Attempt, IsAttempt, entry_of, after_attempt, board_after, accepted_of}
use Rattle.ucl_word.specs.Migration.{read_word}
use Rattle.ucl_word.proofs.FirstWords.{read_valid, reads_word}
use Rattle.std.specs.Prelude.{if◌then◌else◌, Result}
use Rattle.std.specs.List.{fold, All}
use Rattle.std.specs.Result.{is_ok}
use Rattle.std.proofs.lemmas.List.Sums.{sum_by-set, sum_by-le}
use Rattle.ucl_word.proofs.AcceptedEvents.{Accepts, accepts, events_apart, expects_number}
use Rattle.ucl_word.proofs.ValidRecords.{number_valid}
use Rattle.ucl_board.specs.Theorems.{EachPairMeetsOnce, BeginningsAreLegal, VersionsAreLengths, SameNumberSameWord, SameWordSameEntries}
use Rattle.ucl_board.specs.Theorems.{OneWordChanges, EntryIsKnown, AttemptsAreCounted, IsStaleAgain, AcceptedEventsGoStale}
use Rattle.ucl_board.specs.Theorems.{RepeatsChangeNothing, BoardsGoOn}
use Rattle.std.proofs.lemmas.Option.{slice_get-get_or}
use Rattle.std.proofs.Math.Seq.{take-append-add}
use mathlib.Core.List.{IsPrefix}
use Rattle.ucl_word.specs.declared.refusal.Refusal.TheVariants.{Stale}

-- the entries of a match in two histories, one after the other, are those in the first and then those in the second
pub entries-append : (g : ℕ) (h l : List Entry) → entries_of g (h ++ l) ≡ entries_of g h ++ entries_of g l
entries-append g h l = ap (map of_match) (filter-append (λ e. e.game == g) h l) ∙ map-append of_match (filter (λ e. e.game == g) h) (filter (λ e. e.game == g) l)

-- an entry of a match at the end of a history is at the end of the entries of this match
pub entries_same : (h : List Entry) (e : Entry) (g : ℕ) → e.game ≡ g → entries_of g (followed_by h e) ≡ entered (entries_of g h) e.reporter e.kind
entries_same h e g is = entries-append g h (e ∷ []) ∙ ap (λ (b : Bool). entries_of g h ++ map of_match (cond b (e ∷ []) [])) (eq-eqb e.game g is)

-- an entry of another match at the end of a history leaves the entries of a match as they are
pub entries_else : (h : List Entry) (e : Entry) (g : ℕ) → e.game ≢ g → entries_of g (followed_by h e) ≡ entries_of g h
entries_else h e g not = entries-append g h (e ∷ []) ∙ (ap (λ (b : Bool). entries_of g h ++ map of_match (cond b (e ∷ []) [])) (ne_eqb e.game g not) ∙ append-nil (entries_of g h))

-- the entries of each match of a legal history are legal
pub legal_match : (g : ℕ) (h : List Entry) → IsLegal h → IsLegalMatch (entries_of g h)
legal_match g = may_induction MayFollow (λ h. IsLegalMatch (entries_of g h)) (may_none IsAccepted) (λ h e legal may was. dite (ℕ_discrete e.game g)
    (λ is. rw (entries_same h e g is) (may_next IsAccepted (entries_of g h) (of_match e) was (subst (λ (g : ℕ). IsAccepted (entries_of g h) (of_match e)) is may.accepted)))
    (λ not. rw (entries_else h e g not) was))

-- after a legal history the record of each match is valid
pub match_valid : (g : ℕ) (h : List Entry) → IsLegal h → IsValid (match_after h g)
match_valid g h legal = legal_valid (entries_of g h) (legal_match g h legal)

-- P holds of n if it holds of k, and, in the case that n is not k, of n
pub or_else : (P : ℕ → Type 0) (k : ℕ) → P k → (n : ℕ) → (n ≢ k → P n) → P n
or_else P k p n other = dite (ℕ_discrete n k) (λ is. subst P (sym is) p) other

-- what holds of matches 1 to 12 holds of each match
pub each_match : (P : ℕ → Type 0) → P 1 → P 2 → P 3 → P 4 → P 5 → P 6 → P 7 → P 8 → P 9 → P 10 → P 11 → P 12 → (n : ℕ) → IsMatch n → P n
each_match P a b c d e f g h i j k l n is = or_else P 1 a n (λ not_1. or_else P 2 b n
    (λ not_2. or_else P 3 c n (λ not_3. or_else P 4 d n
    (λ not_4. or_else P 5 e n (λ not_5. or_else P 6 f n
    (λ not_6. or_else P 7 g n (λ not_7. or_else P 8 h n
    (λ not_8. or_else P 9 i n (λ not_9. or_else P 10 j n (λ not_10. or_else P 11 k n (λ not_11. or_else P 12 l n (λ not_12. absurd (omega arith)))))))))))))

-- what holds of slots 1 to 4 holds of each slot
pub each_slot : (P : ℕ → Type 0) → P 1 → P 2 → P 3 → P 4 → (n : ℕ) → IsSlot n → P n
each_slot P a b c d n is = or_else P 1 a n (λ not_1. or_else P 2 b n (λ not_2. or_else P 3 c n (λ not_3. or_else P 4 d n (λ not_4. absurd (omega arith)))))

-- match g is the one with place g - 1 in the list of matches
pub number_listed : (g d : ℕ) → IsMatch g → get_or match_numbers (g - 1) d ≡ g
number_listed g d is = each_match (λ g. get_or match_numbers (g - 1) d ≡ g) refl refl refl refl refl refl refl refl refl refl refl refl g is

-- twelve words of matches that have not kicked off are the board before any event
pub board_none : replicate 12 (word_of scheduled) ≡ board_of []
unfolding board_of counted_match
board_none = refl

-- a board has twelve words
pub board_length : (h : List Entry) → length (board_of h) ≡ 12
unfolding board_of
board_length h = refl

-- at each of its twelve places the board after a history has the word of the match's record after the history
word_listed : (h : List Entry) (k d : ℕ) → k < 12 → get_or (board_of h) k d ≡ word_of (match_after h (get_or match_numbers k 0))
unfolding board_of
word_listed h k d below = get_or-map (λ game. word_of (match_after h game)) match_numbers k 0 d below

-- the board after a history has, for each match, the word of its record after the history
pub word_after : (h : List Entry) (g : ℕ) → IsMatch g → word_at (board_of h) g ≡ word_of (match_after h g)
word_after h g is = word_listed h (g - 1) 0 (omega arith) ∙ ap (λ game. word_of (match_after h game)) (number_listed g 0 is)

-- the board after a legal history holds, for each match, the record counted from its entries
pub game_after : (h : List Entry) (g : ℕ) → IsLegal h → IsMatch g → game_at (board_of h) g ≡ match_after h g
game_after h g legal is = ap record_at (word_after h g is) ∙ record_back (match_after h g) (match_valid g h legal)

-- boards with the same word for each match are equal
pub same_boards : (xs ys : List ℕ) → length xs ≡ 12 → length ys ≡ 12 → ((g : ℕ) → IsMatch g → word_at xs g ≡ word_at ys g) → xs ≡ ys
same_boards xs ys a b each = same_number_lists xs ys (a ∙ sym b)
    (λ k l. let e : k + 1 - 1 ≡ k = omega arith in subst (λ (k : ℕ). get_or xs k 0 ≡ get_or ys k 0) e (each (k + 1) (omega arith, omega arith)))

-- the board with one entry more is the board before it, but for the word of the entry's match, which is that of its record after the entry
pub board_next : (h : List Entry) (e : Entry) → IsMatch e.game → board_of (followed_by h e) ≡ set (board_of h) (e.game - 1) (word_of (match_after (followed_by h e) e.game))
board_next h e game = let long = board_length h in
    same_boards (board_of (followed_by h e)) (set (board_of h) (e.game - 1) (word_of (match_after (followed_by h e) e.game))) (board_length (followed_by h e))
    (length-set (board_of h) (e.game - 1) _ ∙ board_length h)
    (λ g is. dite (ℕ_discrete e.game g)
    (λ same. subst (λ (g : ℕ). word_at (board_of (followed_by h e)) g ≡ word_at (set (board_of h) (e.game - 1) (word_of (match_after (followed_by h e) e.game))) g) same
    (word_after (followed_by h e) e.game game ∙ sym (get_or-set_same (board_of h) (e.game - 1) _ 0 (omega arith))))
    (λ not. word_after (followed_by h e) g is ∙ (ap (λ (es : List MatchEntry). word_of (counted_match es)) (entries_else h e g not)
    ∙ (sym (word_after h g is) ∙ sym (get_or-set_other (board_of h) (e.game - 1) (g - 1) _ 0 (λ eq. not (omega arith)))))))

-- suppose that each legal list of entries from which the match's record is counted stays legal with an event at its end, with m as its
-- count; then the history with this event at its end is legal, and its board is the one before, but with the word of m for this match
pub next_board : (h : List Entry) (words : List ℕ) (game reporter : ℕ) (kind : Kind) (m : MatchRecord) → IsLegal h → board_of h ≡ words → IsMatch game
    → ((es : List MatchEntry) → IsLegalMatch es → counted_match es ≡ game_at words game → (m ≡ counted_match (entered es reporter kind)) × IsLegalMatch (entered es reporter kind))
    → (set words (game - 1) (word_of m) ≡ board_of (followed_by h (record { game = game; reporter = reporter; kind = kind })))
    × IsLegal (followed_by h (record { game = game; reporter = reporter; kind = kind }))
next_board h words game reporter kind m legal is range counted =
    let e : Entry = record { game = game; reporter = reporter; kind = kind } in
    let was : match_after h game ≡ game_at words game = sym (game_after h game legal range) ∙ ap (λ (ws : List ℕ). game_at ws game) is in
    let next = counted (entries_of game h) (legal_match game h legal) was in
    let same : match_after (followed_by h e) game ≡ m = ap counted_match (entries_same h e game refl) ∙ sym next.0 in (
      sym (board_next h e range ∙ ap (λ (m : MatchRecord). set (board_of h) (game - 1) (word_of m)) same ∙ ap (λ (ws : List ℕ). set ws (game - 1) (word_of m)) is),
      may_next MayFollow h e legal (record { game = range; accepted = may_last IsAccepted (entries_of game h) (of_match e) next.1 }),
    )

-- the board of a legal history has words of valid records
pub board_words : (h : List Entry) → IsLegal h → AreWords (board_of h)
board_words h legal = record {
  twelve = board_length h;
  each = λ k d below. let long = board_length h in let in_range : k < 12 = omega arith in
      let at : get_or (board_of h) k d ≡ word_of (match_after h (get_or match_numbers k 0)) = word_listed h k d in_range in
      rw at (record { of = match_after h (get_or match_numbers k 0); valid = match_valid (get_or match_numbers k 0) h legal; packed = refl });
}

-- on the board after a legal history the reply to an event, by the record in the match's word, is the one counted from the history
pub reply_is : (h : List Entry) (words : List ℕ) (call : EventCall) → IsLegal h → board_of h ≡ words → IsMatch call.game → reply_of (game_at words call.game) call ≡ sequential_reply h call
reply_is h words call legal is range =
    let was : game_at words call.game ≡ match_after h call.game = ap (λ (ws : List ℕ). game_at ws call.game) (sym is) ∙ game_after h call.game legal range in
    ap (λ (m : MatchRecord). reply_of m call) was

-- if the rules accept an event on the record of its match, the reply to it is this acceptance, with the next event number
pub accepted_reply : (m g : MatchRecord) (call : EventCall) (number : ℕ) → m ≡ g → refusal_of m call.expected call.kind ≡ None → number ≡ m.number + 1
    → Ok (record { number = number }) ≡ reply_of g call
accepted_reply m g call number same none is = subst (λ (g : MatchRecord). Ok (record { number = number }) ≡ reply_of g call) same (rw is (sym (ap (λ (o : Option Refusal). answer m.number o) none)))

-- if the rules refuse an event on the record of its match, the reply to it is this refusal
pub refused_reply : (m g : MatchRecord) (call : EventCall) (refusal : Refusal) → m ≡ g → refusal_of m call.expected call.kind ≡ Some refusal → Err refusal ≡ reply_of g call
refused_reply m g call refusal same some = subst (λ (g : MatchRecord). Err refusal ≡ reply_of g call) same (sym (ap (λ (o : Option Refusal). answer m.number o) some))

-- ---- the board that twelve words are read as

-- if the words before place i are read (converted to the present layout) as the words of `read`, and word i as `word`, then the words up to
-- place i are read as those of `read` with `word` put in at i
pub next_read : (words read : List ℕ) (i from at word : ℕ) → length read ≡ 12 → i < 12 → from ≡ i → at ≡ i
    → ((k : ℕ) → k < i → read_word (get_or words k 0) ≡ Some (get_or read k 0)) → read_word (get_or words from 0) ≡ Some word
    → (k : ℕ) → k < i + 1 → read_word (get_or words k 0) ≡ Some (get_or (set read at word) k 0)
next_read words read i from at word long few from_is at_is before now k below = rw at_is (dite (ℕ_discrete k i)
    (λ is. rw (is, get_or-set_same read i word 0 (omega arith)) (subst (λ (n : ℕ). read_word (get_or words n 0) ≡ Some word) from_is now))
    (λ not. rw (get_or-set_other read i k word 0 not) (before k (omega arith))))

-- if each word of a list is read (converted to the present layout) as the word at its place in `read`, reading the list gives `read`
all_read : (index : ℕ) (words read : List ℕ) → length read ≡ length words
    → ((k : ℕ) → k < length words → read_word (get_or words k 0) ≡ Some (get_or read k 0)) → read_words index words ≡ Ok read
unfolding read_words
all_read index [] [] long each = refl
all_read index (w ∷ words) (r ∷ read) long each =
    let first : read_word w ≡ Some r = each 0 (omega arith) in
    let rest = all_read (index + 1) words read (omega arith) (λ k below. each (suc k) (omega arith)) in rw (first, rest) refl
all_read index words read long each = absurd (omega arith)

-- if word k of a list is of neither layout, and each word before it can be read, then reading fails with its index, `index` + k
pub first_bad : (index k : ℕ) (words : List ℕ) (read : ℕ → ℕ) → k < length words → read_word (get_or words k 0) ≡ None
    → ((j : ℕ) → j < k → read_word (get_or words j 0) ≡ Some (read j)) → read_words index words ≡ Err (index + k)
unfolding read_words
first_bad index k [] read below bad before = absurd (omega arith)
first_bad index zero (w ∷ words) read below bad before = let now : read_word w ≡ None = bad in rw now (ap (λ (n : ℕ). Err n) (omega arith))
first_bad index (suc k) (w ∷ words) read below bad before =
    let first : read_word w ≡ Some (read 0) = before 0 (omega arith) in
    let rest = first_bad (index + 1) k words (λ j. read (suc j)) (omega arith) bad (λ j less. before (suc j) (omega arith)) in
    rw (first, rest) (ap (λ (n : ℕ). Err n) (omega arith))

-- all twelve words were read, one by one
module _ (words read : List ℕ) (long : length words ≡ 12) (read_long : length read ≡ 12)
    (each : (k : ℕ) → k < 12 → read_word (get_or words k 0) ≡ Some (get_or read k 0)) where
  pub are_read : read_words 1 words ≡ Ok read
  are_read = all_read 1 words read (omega arith) (λ k below. each k (omega arith))

  pub are_words : AreWords read
  are_words = record {
    twelve = read_long;
    each = λ k d below. let in_range : k < 12 = omega arith in rw (get_or_default read k d 0 below) (read_valid (get_or words k 0) (get_or read k 0) (each k in_range));
  }

-- reading twelve words of the present layout gives these words as they are
pub read_again : (words : List ℕ) → AreWords words → read_words 1 words ≡ Ok words
read_again words are = are_read words words are.twelve are.twelve (λ k below. reads_word (get_or words k 0) (are.each k 0 (let long = are.twelve in omega arith)))

-- if a word and the words after it are read as `board`, then the word is read, the words after it are read, and `board` is these results
one_read : (word : Option ℕ) (index : ℕ) (rest : Result (List ℕ) ℕ) (board : List ℕ) → before_words word index rest ≡ Ok board
    → (new : ℕ) × (later : List ℕ) × (word ≡ Some new) × (rest ≡ Ok later) × (new ∷ later ≡ board)
one_read (Some new) index (Ok later) board is = (new, later, refl, refl, cc)
one_read (Some new) index (Err bad) board is = absurd cc
one_read None index rest board is = absurd cc

-- if reading a list of words succeeds, it gives as many words, and each is the word of a valid record in the present layout
pub read_are_words : (index : ℕ) (words board : List ℕ) → read_words index words ≡ Ok board → (length board ≡ length words) × All IsWord board
unfolding read_words
read_are_words index [] board is = let none : [] ≡ board = cc in rw (← none) (refl, All-nil IsWord)
read_are_words index (w ∷ words) board is =
    let one = one_read (read_word w) index (read_words (index + 1) words) board is in
    let rest = read_are_words (index + 1) words one.1 one.3 in
    rw (← one.4) (ap suc rest.0, All-cons IsWord one.0 one.1 (read_valid w one.0 one.2) rest.1)

-- a number that tells which two clubs play a match: ten times the home slot plus the away slot
key : Fixture → ℕ
key f = 10 * f.home + f.away

-- the match that two clubs play, from the number that tells them, ten times the home slot plus the away slot; 0 if there is none
game_of : ℕ → ℕ
game_of key = if key == 23 then 1 else (if key == 41 then 2 else
    (if key == 12 then 3 else (if key == 34 then 4 else
    (if key == 31 then 5 else (if key == 24 then 6 else
    (if key == 13 then 7 else (if key == 42 then 8 else (if key == 32 then 9 else (if key == 14 then 10 else (if key == 21 then 11 else (if key == 43 then 12 else 0)))))))))))

-- `game_of` gives back each match from the number that tells its two clubs, ten times the home slot plus the away slot
game_back : (game : ℕ) → IsMatch game → game_of (key (fixture_of game)) ≡ game
unfolding key game_of
game_back = each_match (λ game. game_of (key (fixture_of game)) ≡ game) refl refl refl refl refl refl refl refl refl refl refl refl

-- for any two different slots there is a match that the club in `home` plays at home against the club in `away`
meet : (home : ℕ) → IsSlot home → (away : ℕ) → IsSlot away → home ≢ away → (game : ℕ) × IsMatch game × (fixture_of game ≡ at home away)
meet = each_slot (λ home. (away : ℕ) → IsSlot away → home ≢ away → (game : ℕ) × IsMatch game × (fixture_of game ≡ at home away))
    (each_slot (λ away. 1 ≢ away → (game : ℕ) × IsMatch game × (fixture_of game ≡ at 1 away)) (λ not. absurd (not refl)) (λ not. (3, (omega arith, omega arith), refl))
    (λ not. (7, (omega arith, omega arith), refl)) (λ not. (10, (omega arith, omega arith), refl)))
    (each_slot (λ away. 2 ≢ away → (game : ℕ) × IsMatch game × (fixture_of game ≡ at 2 away)) (λ not. (11, (omega arith, omega arith), refl)) (λ not. absurd (not refl))
    (λ not. (1, (omega arith, omega arith), refl)) (λ not. (6, (omega arith, omega arith), refl)))
    (each_slot (λ away. 3 ≢ away → (game : ℕ) × IsMatch game × (fixture_of game ≡ at 3 away)) (λ not. (5, (omega arith, omega arith), refl)) (λ not. (9, (omega arith, omega arith), refl))
    (λ not. absurd (not refl)) (λ not. (4, (omega arith, omega arith), refl)))
    (each_slot (λ away. 4 ≢ away → (game : ℕ) × IsMatch game × (fixture_of game ≡ at 4 away)) (λ not. (2, (omega arith, omega arith), refl)) (λ not. (8, (omega arith, omega arith), refl))
    (λ not. (12, (omega arith, omega arith), refl)) (λ not. absurd (not refl)))

-- each club of a group plays each other club exactly once at home
pub fixtures_meet : EachPairMeetsOnce
fixtures_meet home away h a not = let m = meet home h away a not in record {
  game = m.0;
  within = m.1;
  plays = m.2;
  alone = λ other is same. sym (game_back other is) ∙ (ap (λ (f : Fixture). game_of (key f)) (same ∙ sym m.2) ∙ game_back m.0 m.1);
}

-- each beginning of a legal history is legal
pub beginnings : BeginningsAreLegal
beginnings = may_begin MayFollow

-- an entry adds one to the entries of its match
pub one_entry_more : (h : List Entry) (e : Entry) (g : ℕ) → e.game ≡ g → length (entries_of g (followed_by h e)) ≡ length (entries_of g h) + 1
one_entry_more h e g is = ap length (entries_same h e g is) ∙ length-append (entries_of g h) _

-- in the board after a legal history the event number in the word of a match is how many entries the match has in the history
number_shown : (h : List Entry) (g : ℕ) → IsLegal h → (record_at (word_of (match_after h g))).number ≡ length (entries_of g h)
number_shown h g legal = ap (λ (m : MatchRecord). m.number) (record_back (match_after h g) (match_valid g h legal)) ∙ number_of_count (entries_of g h)

-- the version of the board before any event is 0
version_none : version_of (board_of []) ≡ 0
unfolding board_of counted_match word_of record_at
version_none = refl

-- an entry that may follow a legal history raises the version of the board by one
version_more : (h : List Entry) (e : Entry) → IsLegal h → MayFollow h e → version_of (board_of (followed_by h e)) ≡ version_of (board_of h) + 1
version_more h e legal may =
    let long = board_length h in let game = may.game in
    let sum = sum_by-set (λ word. (record_at word).number) (board_of h) (e.game - 1) (word_of (match_after (followed_by h e) e.game)) 0 (omega arith) in
    let before = ap (λ (word : ℕ). (record_at word).number) (word_after h e.game game) ∙ number_shown h e.game legal in
    let now = number_shown (followed_by h e) e.game (may_next MayFollow h e legal may) in
    let one = one_entry_more h e e.game refl in
    ap version_of (board_next h e game) ∙ omega arith

-- the version of the board after a legal history is the length of the history
version_length : (h : List Entry) → IsLegal h → version_of (board_of h) ≡ length h
version_length = may_induction MayFollow (λ h. version_of (board_of h) ≡ length h) version_none
    (λ h e legal may was. let more = version_more h e legal may in let long = length-append h (e ∷ []) in omega arith)

-- the version of the board after a legal history is the length of the history, which is at most the greatest version
pub versions : VersionsAreLengths
versions h legal =
    let is = version_length h legal in let long = board_length h in
    let most = sum_by-le (λ word. (record_at word).number) max_number (board_of h)
    (λ k d below. number_valid _ (word_valid _ ((board_words h legal).each k d below))) in
    (is, omega arith)

-- if i is at most j, the first j entries of a history are its first i entries followed by some others
begin_of : (h : List Entry) (i j : ℕ) → i ≤ j → (rest : List Entry) × (take j h ≡ take i h ++ rest)
begin_of h i j le = (drop i (take j h), sym (take-append-drop i (take j h)) ∙ ap (λ (l : List Entry). l ++ drop i (take j h)) (take-take i j h le))

-- if a match has as many entries among the first i of a history as among the first j, with i at most j, then they are the same entries
same_later : (h : List Entry) (i j g : ℕ) → i ≤ j → length (entries_of g (take i h)) ≡ length (entries_of g (take j h)) → entries_of g (take i h) ≡ entries_of g (take j h)
same_later h i j g le same =
    let t = begin_of h i j le in
    let cut : entries_of g (take j h) ≡ entries_of g (take i h) ++ entries_of g t.0 = ap (entries_of g) t.1 ∙ entries-append g (take i h) t.0 in
    let none : entries_of g t.0 ≡ [] = nil_from_length (entries_of g t.0) (omega (arith, ap length cut, length-append (entries_of g (take i h)) (entries_of g t.0))) in
    sym (cut ∙ (ap (λ (x : List MatchEntry). entries_of g (take i h) ++ x) none ∙ append-nil (entries_of g (take i h))))

-- at two points of a history at which a match has as many entries, it has the same entries
same_entries : (h : List Entry) (i j g : ℕ) → length (entries_of g (take i h)) ≡ length (entries_of g (take j h)) → entries_of g (take i h) ≡ entries_of g (take j h)
same_entries h i j g same = dite (dec_le i j) (λ le. same_later h i j g le same) (λ not. sym (same_later h j i g (omega arith) (sym same)))

-- at two points of a history at which a match has the same event number, its entries and its word are the same
pub same_number : SameNumberSameWord
same_number h i j g same =
    let e = same_entries h i j g (sym (number_of_count (entries_of g (take i h))) ∙ (same ∙ number_of_count (entries_of g (take j h)))) in
    (e, ap (λ (es : List MatchEntry). word_of (counted_match es)) e)

-- the first k entries of a legal history are legal
pub legal_take : (h : List Entry) (k : ℕ) → IsLegal h → IsLegal (take k h)
legal_take h k legal = may_begin MayFollow (take k h) (drop k h) (subst IsLegal (sym (take-append-drop k h)) legal)

-- if a match has the same word at two points of a legal history, it has the same entries at both
pub same_word : SameWordSameEntries
same_word h i j g legal same =
    let m = words_apart (match_after (take i h) g) (match_after (take j h) g) (match_valid g (take i h) (legal_take h i legal)) (match_valid g (take j h) (legal_take h j legal)) same in
    (same_number h i j g (ap (λ (m : MatchRecord). m.number) m)).0

-- one more entry changes the word of its match, and no other
pub one_word : OneWordChanges
one_word h e legal =
    let before = may_begin MayFollow h (e ∷ []) legal in
    let may = may_last MayFollow h e legal in
    record {
      changed = λ same.
          let m = words_apart (match_after (followed_by h e) e.game) (match_after h e.game) (match_valid e.game (followed_by h e) legal) (match_valid e.game h before)
          (sym (word_after (followed_by h e) e.game may.game) ∙ (same ∙ word_after h e.game may.game)) in
          let n = ap (λ (m : MatchRecord). m.number) m in
          let a = number_of_count (entries_of e.game (followed_by h e)) in
          let b = number_of_count (entries_of e.game h) in
          let c = one_entry_more h e e.game refl in
          omega arith;
      others = λ game is not. word_after (followed_by h e) game is
          ∙ (ap (λ (es : List MatchEntry). word_of (counted_match es)) (entries_else h e game (λ eq. not (sym eq))) ∙ sym (word_after h game is));
    }

-- the entry of an attempt that no rule refuses after a legal history may come next in this history
pub may_attempt : (h : List Entry) (a : Attempt) → IsLegal h → IsAttempt a → refusal_of (match_after h a.call.game) a.call.expected a.call.kind ≡ None → MayFollow h (entry_of a.reporter a.call)
may_attempt h a legal is none = record {
  game = is.1;
  accepted = may_last IsAccepted (entries_of a.call.game h) (record { reporter = a.reporter; kind = a.call.kind })
      (counted (entries_of a.call.game h) (match_after h a.call.game) a.reporter a.call.expected a.call.kind (legal_match a.call.game h legal) refl is.0 none).1;
}

-- whether the rules accept an attempt (o is None) or refuse it, the board after it is that of the history after it, which is legal
attempt_cases : (h : List Entry) (a : Attempt) (o : Option Refusal) → refusal_of (match_after h a.call.game) a.call.expected a.call.kind ≡ o → IsLegal h → IsAttempt a
    → ((if is_ok (answer (match_after h a.call.game).number o) then set (board_of h) (a.call.game - 1) (word_of (after (match_after h a.call.game) a.reporter a.call.kind)) else board_of h)
    ≡ board_of (if is_ok (answer (match_after h a.call.game).number o) then followed_by h (entry_of a.reporter a.call) else h))
    × IsLegal (if is_ok (answer (match_after h a.call.game).number o) then followed_by h (entry_of a.reporter a.call) else h)
attempt_cases h a None none legal is =
    next_board h (board_of h) a.call.game a.reporter a.call.kind (after (match_after h a.call.game) a.reporter a.call.kind) legal refl is.1
    (λ es legal_es is_es. counted es (match_after h a.call.game) a.reporter a.call.expected a.call.kind legal_es (is_es ∙ game_after h a.call.game legal is.1) is.0 none)
attempt_cases h a (Some r) some legal is = (refl, legal)

-- an attempt on the board after a legal history gives the board of the history after it, which is legal
attempt_made : (h : List Entry) (a : Attempt) → IsLegal h → IsAttempt a → (board_after (board_of h) a ≡ board_of (after_attempt h a)) × IsLegal (after_attempt h a)
attempt_made h a legal is = rw (game_after h a.call.game legal is.1) (attempt_cases h a (refusal_of (match_after h a.call.game) a.call.expected a.call.kind) refl legal is)

-- the board after an attempt is that of the history after it
pub attempt_board : (h : List Entry) (a : Attempt) → IsLegal h → IsAttempt a → board_after (board_of h) a ≡ board_of (after_attempt h a)
attempt_board h a legal is = (attempt_made h a legal is).0

-- after attempts on the board of a legal history the board is that of the history after them
pub attempts_from : (h : List Entry) (attempts : List Attempt) → IsLegal h → All IsAttempt attempts
    → IsLegal (fold after_attempt h attempts) × (fold board_after (board_of h) attempts ≡ board_of (fold after_attempt h attempts))
attempts_from h [] legal all = (legal, refl)
attempts_from h (a ∷ attempts) legal all =
    let is = All-head IsAttempt a attempts all in
    let made = attempt_made h a legal is in
    let rest = attempts_from (after_attempt h a) attempts made.1 (All-tail IsAttempt a attempts all) in
    (rest.0, ap (λ (ws : List ℕ). fold board_after ws attempts) made.0 ∙ rest.1)

-- attempts on the fresh board leave the board of the accepted ones, a legal history whose length is its version
pub attempts_counted : AttemptsAreCounted
attempts_counted attempts all =
    let end = attempts_from [] attempts (may_none MayFollow) all in
    record { legal = end.0; board = end.1; version = ap version_of end.1 ∙ (versions (accepted_of attempts) end.0).0 }

-- if e is the last entry of a legal history, the record of its match before e accepts its event, and the record after e is that record with
-- this event applied
entry_after : (h : List Entry) (e : Entry) → IsLegal (followed_by h e)
    → Accepts (match_after h e.game) (length (entries_of e.game h)) e.kind × (match_after (followed_by h e) e.game ≡ after (match_after h e.game) e.reporter e.kind)
entry_after h e legal =
    let may = may_last MayFollow h e legal in
    let before = legal_match e.game h (may_begin MayFollow h (e ∷ []) legal) in
    let accepted = may.accepted.accepted in (
      accepts (match_after h e.game) (length (entries_of e.game h)) e.kind accepted,
      ap counted_match (entries_same h e e.game refl)
          ∙ sym (counted (entries_of e.game h) (match_after h e.game) e.reporter (length (entries_of e.game h)) e.kind before refl may.accepted.reporter accepted).0,
    )

-- if a match has the same word in the boards after two legal histories, it has the same record after both
same_record : (h k : List Entry) (game : ℕ) → IsLegal h → IsLegal k → IsMatch game → word_at (board_of h) game ≡ word_at (board_of k) game → match_after h game ≡ match_after k game
same_record h k game a b is same = words_apart (match_after h game) (match_after k game) (match_valid game h a) (match_valid game k b) (sym (word_after h game is) ∙ (same ∙ word_after k game is))

-- if two legal histories end with entries of one match, and its word is the same before these entries, and the same after them, then the
-- two entries are the same
pub entry_known : EntryIsKnown
entry_known h k e f legal_e legal_f game was is =
    let before_h = may_begin MayFollow h (e ∷ []) legal_e in
    let before_k = may_begin MayFollow k (f ∷ []) legal_f in
    let range = (may_last MayFollow h e legal_e).game in
    let m = same_record h k e.game before_h before_k range was in
    let n = same_record (followed_by h e) (followed_by k f) e.game legal_e legal_f range is in
    let at_e = entry_after h e legal_e in
    let at_f : Accepts (match_after k e.game) (length (entries_of e.game k)) f.kind × (match_after (followed_by k f) e.game ≡ after (match_after k e.game) f.reporter f.kind) =
    subst (λ (g : ℕ). Accepts (match_after k g) (length (entries_of g k)) f.kind × (match_after (followed_by k f) g ≡ after (match_after k g) f.reporter f.kind)) (sym game)
    (entry_after k f legal_f) in
    let accepts_f : Accepts (match_after h e.game) (length (entries_of e.game k)) f.kind = subst (λ (m : MatchRecord). Accepts m (length (entries_of e.game k)) f.kind) (sym m) at_f.0 in
    let after_f : match_after (followed_by k f) e.game ≡ after (match_after h e.game) f.reporter f.kind = at_f.1 ∙ ap (λ (m : MatchRecord). after m f.reporter f.kind) (sym m) in
    let apart = events_apart (match_after h e.game) e.reporter f.reporter (length (entries_of e.game h)) (length (entries_of e.game k)) e.kind f.kind at_e.0 accepts_f (sym at_e.1 ∙ (n ∙ after_f)) in
    let reporter = apart.0 in let kind = apart.1 in
    let same : record { game = e.game; reporter = e.reporter; kind = e.kind } ≡ record { game = f.game; reporter = f.reporter; kind = f.kind } = cc in same

-- what one list that begins another has, the other has at its front
module _ {X : Type 0} where
  pub begins_none : (h : List X) → IsPrefix [] h
  begins_none h = (h, refl)

  pub begins_same : (h : List X) → IsPrefix h h
  begins_same h = ([], append-nil h)

  pub begins_more : (s h : List X) (e : X) → IsPrefix s h → IsPrefix s (h ++ e ∷ [])
  begins_more s h e p = (p.0 ++ e ∷ [], sym (append_assoc s p.0 (e ∷ [])) ∙ ap (λ l. l ++ e ∷ []) p.1)

  pub begins_through : (a b c : List X) → IsPrefix a b → IsPrefix b c → IsPrefix a c
  begins_through a b c p q = (p.0 ++ q.0, sym (append_assoc a p.0 q.0) ∙ (ap (λ l. l ++ q.0) p.1 ∙ q.1))

  pub begins_length : (s h : List X) → IsPrefix s h → length s ≤ length h
  begins_length s h p = let l = ap length (sym p.1) ∙ length-append s p.0 in omega arith

  pub begins_take : (s h : List X) (v : ℕ) → IsPrefix s h → length s ≤ v → IsPrefix s (take v h)
  begins_take s h v p le = let is : length s + (v - length s) ≡ v = omega arith in
      (take (v - length s) p.0, sym (take-append-add s p.0 (v - length s)) ∙ (ap (λ (n : ℕ). take n (s ++ p.0)) is ∙ ap (take v) p.1))

  -- up to the length of the beginning both lists agree
  pub take_beginning : (s h : List X) (k : ℕ) → IsPrefix s h → k ≤ length s → take k h ≡ take k s
  take_beginning s h k p le = ap (take k) (sym p.1) ∙ take-append-le k s p.0 le

  pub at_beginning : (s h : List X) (k : ℕ) (e : X) → IsPrefix s h → slice_get s k ≡ Some e → slice_get h k ≡ Some e
  at_beginning s h k e p at = ap (λ (z : List X). slice_get z k) (sym p.1) ∙ at_longer s p.0 k e at

  pub get_back : (xs ys : List X) (k : ℕ) (x : X) → k < length xs → slice_get (xs ++ ys) k ≡ Some x → slice_get xs k ≡ Some x
  get_back xs ys k x l e = let at = at_longer xs ys k (get_or xs k x) (slice_get-get_or xs k x l) in let is = slice_get-get_or xs k x l in cc

  pub at_within : (s h : List X) (k : ℕ) (e : X) → IsPrefix s h → k < length s → slice_get h k ≡ Some e → slice_get s k ≡ Some e
  at_within s h k e p le at = get_back s p.0 k e le (ap (λ (z : List X). slice_get z k) p.1 ∙ at)

-- the history after an attempt begins with the history before it
begins_attempt : (h : List Entry) (a : Attempt) (o : Option Refusal) → refusal_of (match_after h a.call.game) a.call.expected a.call.kind ≡ o → IsPrefix h (after_attempt h a)
begins_attempt h a None none = rw none (begins_more h h (entry_of a.reporter a.call) (begins_same h))
begins_attempt h a (Some r) some = rw some (begins_same h)

-- the history after attempts begins with the history before them
begins_all : (h : List Entry) (attempts : List Attempt) → IsPrefix h (fold after_attempt h attempts)
begins_all h [] = begins_same h
begins_all h (a ∷ attempts) =
    begins_through h (after_attempt h a) _ (begins_attempt h a (refusal_of (match_after h a.call.game) a.call.expected a.call.kind) refl) (begins_all (after_attempt h a) attempts)

-- attempts never lessen the entries of a match: it has at least as many after them as before
entries_grow : (game : ℕ) (h : List Entry) (attempts : List Attempt) → length (entries_of game h) ≤ length (entries_of game (fold after_attempt h attempts))
entries_grow game h attempts = let p = begins_all h attempts in
    begins_length _ _ (entries_of game p.0, sym (entries-append game h p.0) ∙ ap (entries_of game) p.1)

-- if the reply to an event, made from an optional refusal, says that the event is accepted, then there is no refusal
pub no_refusal : (number : ℕ) (o : Option Refusal) → is_ok (answer number o) ≡ true → o ≡ None
no_refusal number None ok = refl
no_refusal number (Some r) ok = absurd (true≢false (sym ok))

-- an event that the rules accept expects the event number of its match, which is how many entries the match has
pub number_expected : (h : List Entry) (a : Attempt) → refusal_of (match_after h a.call.game) a.call.expected a.call.kind ≡ None → a.call.expected ≡ length (entries_of a.call.game h)
number_expected h a none = let is = accepts (match_after h a.call.game) a.call.expected a.call.kind none in
    expects_number _ _ _ is ∙ number_of_count (entries_of a.call.game h)

-- an event that expects another event number than that of its match is refused as stale
pub is_stale : (m : MatchRecord) (expected : ℕ) (kind : Kind) → expected ≢ m.number → refusal_of m expected kind ≡ Some (Stale m.number)
unfolding refusal_of
is_stale m expected kind not = rw (ne_eqb expected m.number not) refl

-- an event that expects another event number than its match has is refused as stale, and leaves the history and the board as they were
stale_again : (h : List Entry) (a : Attempt) → IsLegal h → IsAttempt a → a.call.expected ≢ length (entries_of a.call.game h) → IsStaleAgain h a
stale_again h a legal is not =
    let stale = is_stale (match_after h a.call.game) a.call.expected a.call.kind (λ e. not (e ∙ number_of_count (entries_of a.call.game h))) in
    let same : after_attempt h a ≡ h = rw stale refl in
    record { refused = rw stale refl; history_is = same; board_is = attempt_board h a legal is ∙ ap board_of same }

-- an accepted attempt that is made again is stale and changes nothing, whatever was attempted since
pub go_stale : AcceptedEventsGoStale
go_stale h a attempts legal all ok =
    let is = All-head IsAttempt a attempts all in
    let none = no_refusal (match_after h a.call.game).number (refusal_of (match_after h a.call.game) a.call.expected a.call.kind) ok in
    let named = number_expected h a none in
    let next : after_attempt h a ≡ followed_by h (entry_of a.reporter a.call) = rw none refl in
    let longer = entries_grow a.call.game (after_attempt h a) attempts in
    let one = ap (λ (l : List Entry). length (entries_of a.call.game l)) next ∙ one_entry_more h (entry_of a.reporter a.call) a.call.game refl in
    stale_again (fold after_attempt h (a ∷ attempts)) a (attempts_from h (a ∷ attempts) legal all).0 is (λ e. absurd (omega arith))

-- an accepted attempt that is made again changes nothing in the history and the board that later attempts leave
pub repeats : RepeatsChangeNothing
repeats h a between rest legal all ok =
    let stale = go_stale h a between legal all ok in
    let board = (attempts_from h (a ∷ between) legal all).1 in (
      ap (λ (l : List Entry). fold after_attempt l rest) stale.history_is,
      ap (λ (ws : List ℕ). fold board_after (board_after ws a) rest) board
          ∙ (ap (λ (ws : List ℕ). fold board_after ws rest) stale.board_is ∙ ap (λ (ws : List ℕ). fold board_after ws rest) (sym board)),
    )

-- attempts after a legal history leave a legal history that begins with it, and the board of that history
pub go_on : BoardsGoOn
go_on h attempts legal all = let end = attempts_from h attempts legal all in record { begins = begins_all h attempts; legal = end.0; board = end.1 }
