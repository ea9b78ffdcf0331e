-- Accesses along a history, and what clean and unclean tries show.
use Rattle.ucl_board.proofs.HistoryTheorems.{is_stale}
use Rattle.ucl_steps.proofs.Common.{legal_take, ◌≡◌, ℕ, suc, ◌+◌, ◌-◌, ◌*◌, ◌<◌, ◌≤◌, List, ◌∷◌, ◌++◌, take, length, Option, Some, None, Ok, Err, inl, inr}
use Rattle.ucl_steps.proofs.Common.{refl, sym, ap, ◌∙◌, subst, arith, [], length-append, le_refl, get_or, get_or-set_other, slice_get, slice_index, slice_set}
use Rattle.ucl_steps.proofs.Common.{IsOk, AllByRecursion, none-some, same_Some, false≢true, take-length, IsPrefix, MatchRecord, Refusal, answer, reply_of}
use Rattle.ucl_steps.proofs.Common.{word_of, record_at, at_below, at_end, at_either, Entry, match_after, board_of, IsLegal, versions, same_number}
use Rattle.ucl_steps.proofs.Common.{take_beginning, AccessKind, Access, access, Does, IsFoundIn, Follows, IsCollect, IsUnclean, IsClean, accesses_of}
use Rattle.ucl_steps.proofs.Common.{UncleanTriesSeeMore, UncleanTriesAreFew, ReadingsAreSnapshots, ReportsAreSequential}
use Rattle.ucl_board.specs.declared.reading.Reading.{Reading}
use Rattle.ucl_steps.proofs.Histories.{get_some, number_expected, read_back, squeezed, board_from}
use Rattle.ucl_log.specs.Log.{Look, Swap}

-- accesses that follow a history from one length of it to another: the second is no less
pub follows_ends : (h : List Entry) (low high : ℕ) (ms : List Access) → Follows h low ms high → low ≤ high
follows_ends h low high [] f = f
follows_ends h low high (m ∷ ms) f = let a = f.0 in let b = follows_ends h m.length high ms f.2 in omega arith

-- accesses that follow a history up to a length that it has follow each longer history
pub follows_longer : (h h' : List Entry) (low high : ℕ) (ms : List Access) → IsPrefix h h' → high ≤ length h → Follows h low ms high → Follows h' low ms high
follows_longer h h' low high [] p le f = f
follows_longer h h' low high (m ∷ ms) p le f = search (arith, follows_ends, take_beginning, follows_longer h h' m.length high ms p le f.2)

-- accesses that follow a history between two lengths of it follow it between a lower and a higher one
pub follows_wider : (h : List Entry) (low low' high high' : ℕ) (ms : List Access) → low' ≤ low → high ≤ high' → Follows h low ms high → Follows h low' ms high'
follows_wider h low low' high high' [] l u f = let a : low ≤ high = f in omega arith
follows_wider h low low' high high' (m ∷ ms) l u f = let a = f.0 in (omega arith, f.1, follows_wider h m.length m.length high high' ms (le_refl m.length) u f.2)

-- accesses to a length, and then others from it, follow the history one after the other
pub follows_append : (h : List Entry) (low middle high : ℕ) (ms ns : List Access) → Follows h low ms middle → Follows h middle ns high → Follows h low (ms ++ ns) high
follows_append h low middle high [] ns f g = follows_wider h middle low high high ns f (le_refl high) g
follows_append h low middle high (m ∷ ms) ns f g = (f.0, f.1, follows_append h m.length middle high ms ns f.2 g)

-- one access at the whole history, which found the word of its match there, follows the history up to its end
pub follows_one : (h : List Entry) (low : ℕ) (m : Access) → low ≤ length h → m.length ≡ length h → m.found ≡ word_of (match_after h m.game) → Follows h low (m ∷ []) (length h)
follows_one h low m le at is = (omega arith, is ∙ ap (λ (z : List Entry). word_of (match_after z m.game)) (sym (take-length h) ∙ ap (λ (z : ℕ). take z h) (sym at)), omega arith)

-- each access of those that follow a history lies between their two lengths of it, and found the word that was there
pub follows_at : (h : List Entry) (low high : ℕ) (ms : List Access) (k : ℕ) (m : Access) → Follows h low ms high → slice_get ms k ≡ Some m → (low ≤ m.length) × (m.length ≤ high) × IsFoundIn h m
follows_at h low high (n ∷ ms) (suc k) m f e = let t = follows_at h n.length high ms k m f.2 e in let a = f.0 in let b = t.0 in (omega arith, t.1, t.2)
follows_at h low high ms k m f e = search (arith, none-some, same_Some, follows_ends)

-- accesses in two parts, `ms` and then `ns`, follow a history part by part: `ms` up to the length `middle`, at which its last access was
-- made, and `ns` from there
pub record Parts (h : List Entry) (low high : ℕ) (ms ns : List Access) : Type 0 where
  pub middle : ℕ
  pub former : Follows h low ms middle
  pub latter : Follows h middle ns high
  pub ends : (k : ℕ) (m : Access) → slice_get ms k ≡ Some m → k + 1 ≡ length ms → m.length ≡ middle

-- accesses of two parts follow the history part by part
pub follows_parts : (h : List Entry) (low high : ℕ) (ms ns : List Access) → Follows h low (ms ++ ns) high → Parts h low high ms ns
follows_parts h low high (m ∷ n ∷ ms) ns f = search (arith, follows_parts h m.length high (n ∷ ms) ns f.2)
follows_parts h low high ms ns f = search (arith, le_refl, none-some, same_Some)

-- no accesses are the beginning of each collect
pub collect_none : (kind : AccessKind) (words : List ℕ) → IsCollect kind words []
collect_none kind words k m e = absurd (none-some m e)

-- a collect, and one more access of its kind to the next match that finds the next word, are a collect
pub collect_more : (kind : AccessKind) (words : List ℕ) (ms : List Access) (m : Access) → IsCollect kind words ms → Does kind (length ms + 1) m → m.found ≡ slice_index words (length ms)
    → IsCollect kind words (ms ++ m ∷ [])
collect_more kind words ms m c does found k x e = search (arith, at_either)

-- accesses that are a collect of a list of words, or the beginning of one, are still one if a word of the list past them is set to another
pub collect_set : (kind : AccessKind) (words : List ℕ) (ms : List Access) (i n : ℕ) → length ms ≤ i → IsCollect kind words ms → IsCollect kind (slice_set words i n) ms
collect_set kind words ms i n le c k m e = let t = c k m e in let l = at_below ms k m e in (t.0, t.1 ∙ sym (get_or-set_other words i k n 0 (λ z. omega arith)))

-- in an unclean try the last Second, which found another word, comes when the history is longer than at the First of the same match
overtaken : (h : List Entry) (low high : ℕ) (ms : List Access) → Follows h low ms high → (try : IsUnclean ms) (first : Access)
    → slice_get try.firsts (length try.broken.equal) ≡ Some first
    → (low ≤ first.length) × (first.length < try.broken.last.length) × (try.broken.last.length ≤ high)
overtaken h low high ms f try first at =
    let parts = follows_parts h low high try.firsts try.seconds (subst (λ (z : List Access). Follows h low z high) try.accesses f) in
    let k = length try.broken.equal in
    let at_last : slice_get try.seconds k ≡ Some try.broken.last = search (arith, try.broken.accesses, at_end) in
    let x = follows_at h low parts.middle try.firsts k first parts.former at in
    let y = follows_at h parts.middle high try.seconds k try.broken.last parts.latter at_last in
    let c = try.collected k first at in
    search (arith, x, y, c, try.broken.kind, try.broken.differs)

-- the last access of an unclean try comes when the history is longer than at the first load of that match
pub broken_later : UncleanTriesSeeMore
broken_later h low high ms f try first at = (overtaken h low high ms f try first at).1

-- an unclean try has at most 24 accesses, and the history grew while they were made
pub unclean_try : (h : List Entry) (low high : ℕ) (ms : List Access) → Follows h low ms high → IsUnclean ms → (low < high) × (length ms ≤ 24)
unclean_try h low high ms f try =
    let first = get_some try.firsts (length try.broken.equal) (omega arith) in
    search (arith, overtaken h low high ms f try first.0 first.1, try.accesses, try.broken.accesses, length-append)

-- unclean tries have no more than 24 accesses each, and are no more than the entries that came
pub tries_bound : (h : List Entry) (low high : ℕ) (tries : List (List Access)) → Follows h low (accesses_of tries) high → AllByRecursion IsUnclean tries
    → (low + length tries ≤ high) × (length (accesses_of tries) ≤ 24 * length tries)
tries_bound h low high [] f all = (omega arith, omega arith)
tries_bound h low high (ms ∷ tries) f all =
    let parts = follows_parts h low high ms (accesses_of tries) f in
    let rest = tries_bound h parts.middle high tries parts.latter all.1 in
    search (arith, rest, unclean_try h low parts.middle ms parts.former all.0, length-append)

-- if the accesses of unclean tries follow a history, there are no more tries than entries that came meanwhile
pub tries_few : UncleanTriesAreFew
tries_few h low high tries f all = (tries_bound h low high tries f all).0

-- what a clean try shows: its reading is the board after as many entries as its version says, from `low` to `high`; it has 24 accesses
pub record Shows (h : List Entry) (low high : ℕ) (reading : Reading) (ms : List Access) : Type 0 where
  pub board : reading.board ≡ board_of (take reading.version h)
  pub within : (low ≤ reading.version) × (reading.version ≤ high)
  pub accesses : length ms ≡ 24

-- a clean try shows the board as it was at one length of the history, between its first access and its last
pub clean_shows : (h : List Entry) (low high : ℕ) (reading : Reading) (ms : List Access) → IsLegal h → Follows h low ms high → IsClean reading ms → Shows h low high reading ms
clean_shows h low high reading ms legal f clean =
    let parts = follows_parts h low high clean.firsts clean.seconds (subst (λ (z : List Access). Follows h low z high) clean.accesses f) in
    let last = get_some clean.firsts 11 (omega arith) in
    let each : (k : ℕ) → k < 12 → get_or reading.board k 0 ≡ word_of (match_after (take parts.middle h) (k + 1)) = λ k few.
    let a = get_some clean.firsts k (omega arith) in
    let b = get_some clean.seconds k (omega arith) in
    let x = follows_at h low parts.middle clean.firsts k a.0 parts.former a.1 in
    let y = follows_at h parts.middle high clean.seconds k b.0 parts.latter b.1 in
    let c = clean.collected k a.0 a.1 in
    let d = clean.again k b.0 b.1 in
    squeezed (k + 1) (get_or reading.board k 0) h a.0.length parts.middle b.0.length legal x.1 y.0
    (sym c.1 ∙ (x.2 ∙ ap (λ (z : ℕ). word_of (match_after (take a.0.length h) z)) c.0.1))
    (sym d.1 ∙ (y.2 ∙ ap (λ (z : ℕ). word_of (match_after (take b.0.length h) z)) d.0.1)) in
    let low_ok = follows_ends h low parts.middle clean.firsts parts.former in
    let high_ok = follows_ends h parts.middle high clean.seconds parts.latter in
    search (arith, board_from, length-append, parts.middle, reading.board, clean.twelve.0, clean.accesses, clean.firsts, clean.seconds)

-- if the accesses of a reading follow a legal history, the reading is the board after a prefix of it, as long as its version says; it has
-- no more unclean tries than entries came meanwhile, and at most 24 loads for each try
pub reading_whole : ReadingsAreSnapshots
reading_whole h low high reading ms legal le f accesses =
    let parts = follows_parts h low high (accesses_of accesses.tries) accesses.last (subst (λ (z : List Access). Follows h low z high) accesses.accesses f) in
    let bound = tries_bound h low parts.middle accesses.tries parts.former accesses.unclean in
    let shows = clean_shows h parts.middle high reading accesses.last legal parts.latter accesses.clean in
    let b0 = bound.0 in let b1 = bound.1 in
    let s0 = shows.within.0 in let s1 = shows.within.1 in
    let long = (versions h legal).1 in
    search (arith, follows_parts, tries_bound, clean_shows, versions, length-append)

-- if the reply `answer n o` accepts an event, then o, the refusal by the rules, is None
pub none_of_ok : (n : ℕ) (o : Option Refusal) → IsOk (answer n o) → o ≡ None
none_of_ok n o is = search (arith, false≢true)

-- the word that an access found, after entries of a legal history, holds the record that its match had then
pub found_record : (h : List Entry) (m : Access) (game : ℕ) → IsLegal h → IsFoundIn h m → m.game ≡ game → record_at m.found ≡ match_after (take m.length h) game
found_record h m game legal found is = ap record_at (found ∙ ap (λ (z : ℕ). word_of (match_after (take m.length h) z)) is) ∙ read_back (take m.length h) game (legal_take h m.length legal)

-- if the accesses of a report follow a legal history, its reply is that of the board of one thread after the entries before its last access
pub report_whole : ReportsAreSequential
report_whole h low high now call (Ok reply) ms legal f won =
    let swapped : Access = access Swap call.game won.looked won.indices.1 won.before in
    let t : Follows h low (access (Look call) call.game won.looked won.indices.0 won.length ∷ swapped ∷ []) high = subst (λ (z : List Access). Follows h low z high) won.accesses f in
    let place : now - 1 ≡ won.before = omega arith in
    search (arith, found_record h swapped call.game legal t.2.1 refl)
report_whole h low high now call (Err refusal) ms legal f (inl refused) =
    let looked : Access = access (Look call) call.game refused.looked refused.index now in
    let t : Follows h low (looked ∷ []) high = subst (λ (z : List Access). Follows h low z high) refused.accesses f in
    ap (λ (z : MatchRecord). reply_of z call) (sym (found_record h looked call.game legal t.1 refl)) ∙ refused.answer
report_whole h low high now call (Err refusal) ms legal f (inr missed) =
    let a : Access = access (Look call) call.game missed.looked missed.missed.indices.0 missed.missed.length in
    let b : Access = access Swap call.game missed.found missed.missed.indices.1 now in
    let t : Follows h low (a ∷ b ∷ []) high = subst (λ (z : List Access). Follows h low z high) missed.missed.accesses f in
    let g = call.game in
    let old = found_record h a g legal t.1 refl in
    let new = found_record h b g legal t.2.1 refl in
    let expected : call.expected ≡ (match_after (take a.length h) g).number = search (arith, number_expected, none_of_ok) in
    let stale : call.expected ≡ (match_after (take now h) g).number → ⊥ = λ is. missed.other (t.2.1 ∙ (sym (same_number h a.length now g (sym expected ∙ is)).1 ∙ sym t.1)) in
    search (arith, is_stale, call.expected, call.kind, missed.answer)
