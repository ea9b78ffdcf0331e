-- How `clap` reads the commands of the programs, and what it found.
use Rattle.std.proofs.Common.{◌≡◌, ◌∙◌, ap, ap₂, sym, subst, refl, Option, Some, None, List, ℕ, true, false, option_map, Result, Ok, Err, IfOk, Bool, codes, leb-true, ◌≤◌}
use Rattle.std.specs.Prelude.{IfSome, MatchResult, is_some, nat_le, option_and_then}
use Rattle.std.specs.Prelude.{if◌then◌else◌}
use Rattle.std.specs.Str.{bytes_eq}
use Rattle.std.proofs.lemmas.Slice.Eq.{bytes_eq-Decides}
use Rattle.ucl_command.specs.declared.options.Format.TheVariants.{Text, Json}
use Rattle.std.specs.Bool.{then_some}
use Rattle.std.specs.Result.{is_ok}
use Rattle.std.specs.Str.Parse.{digits_value, without_leading_plus}
use Rattle.std.proofs.lemmas.Bool.{false≢true}
use Rattle.std.specs.Borrow.{Bor}
use Rattle.clap.proofs.WalkLemmas.{first_value-rows, one_text-rows}
use Rattle.std.proofs.Common.{arith, length-append, ne_eqb, not, ◌&&◌, ◌∷◌, []}
use Rattle.clap.specs.Adds.{AddsConflicts}
use Rattle.clap.specs.Built.{AddsArg, AddsSubcommand}
use Rattle.clap.specs.Matches.{first_value, found_of, one_text}
use Rattle.clap.specs.Simple.{App, HasMatchesOf, app_of, app_of_fields, is_simple, matches_of, on_top, subcommand_of, subcommand_rows_of, with_rule, with_subcommand}
use Rattle.clap.specs.Walk.{Rule, is_empty, is_free_arg, first_of, rows_of}
use Rattle.clap.specs.declared.builder.arg.Arg.{Arg}
use Rattle.clap.specs.declared.builder.command.Command.{Command}
use Rattle.clap.specs.declared.builder.command.Command.TheOpen.{Command-F}
use Rattle.clap.specs.declared.builder.command.Command.TheViews.{out-Command}
use Rattle.clap.specs.declared.builder.texts.Texts.TheVariants.{One}
use Rattle.clap.specs.declared.parser.matches.ArgMatches.{ArgMatches}
use Rattle.clap.specs.declared.parser.matches.Found.{Found}
use Rattle.ucl_command.specs.Arguments.{ReadsJust}
use Rattle.ucl_command.specs.Commands.{HasApp, HasRule, OneOf, follow_app, format_named, live_app, night_app, or_else, readings_in}
use Rattle.ucl_command.specs.declared.fault.LineFault.{LineFault}

-- a command with an option more
pub arg_added : {old new : Command} {arg : Arg} {app : App} {rule : Rule} → HasApp app old → HasRule rule arg → AddsArg old arg new → HasApp (with_rule app rule) new
arg_added {old} {new} {arg} {app} {rule} is has adds = (adds.shape has.1 ∙ ap₂ with_rule is.0 has.0, rw (is.1, has.1) at adds.globals)

-- a command with a subcommand more
pub subcommand_added : {old sub new : Command} {app below : App} → HasApp app old → HasApp below sub → AddsSubcommand old sub new → HasApp (with_subcommand app below.top) new
subcommand_added {old} {sub} {new} {app} {below} is has adds =
    (adds.shape has.1 ∙ ap₂ with_subcommand is.0 (ap (λ (a : App). a.top) has.0), rw (is.1, has.1) at adds.globals)

-- a command that wants a subcommand
pub subcommand_wanted : (old new : Command) {app : App} → HasApp app old → out-Command new ≡ record (out-Command old) { subcommand_required = true }
    → HasApp (on_top (λ shape. record shape { subcommand_required = true }) app) new
subcommand_wanted old new {app} is same =
    (ap app_of_fields same ∙ ap (on_top (λ shape. record shape { subcommand_required = true })) is.0, ap (λ (c : Command-F Command). c.has_globals) same ∙ is.1)

-- an option with a value for where it is left out
pub defaulted : (old new : Arg) {value : Bor (List ℕ)} {rule : Rule} (text : List ℕ) → value.now ≡ text → HasRule rule old → new ≡ record old { default_vals = One value }
    → HasRule (or_else text rule) new
defaulted old new {value} {rule} text is has same =
    subst (HasRule (or_else text rule)) (sym same) (ap (or_else value.now) has.0 ∙ ap (λ (t : List ℕ). or_else t rule) is, has.1)

-- an option that does not go with another
pub set_apart : (old new : Arg) {rule : Rule} (id : Bor (List ℕ)) → HasRule rule old → AddsConflicts old new (id ∷ []) → HasRule (record rule { is_free = false }) new
set_apart old new {rule} id has adds =
    let some : is_empty new.conflicts.items ≡ false =
    ap is_empty adds.1 ∙ ne_eqb _ _ (λ none. let one = length-append old.conflicts.items (id ∷ []) in omega arith) in
    let bound : is_free_arg (record old { conflicts = new.conflicts }) ≡ false = rw some (and_false (not old.exclusive)) in
    subst (HasRule (record rule { is_free = false })) (sym adds.0) (ap₂ (λ (r : Rule) (free : Bool). record r { is_free = free }) has.0 bound, has.1)
  where
    and_false : (b : Bool) → (b && false) ≡ false
    and_false true = refl
    and_false false = refl

-- `clap` says of these commands exactly what it finds
pub night_is_simple : (letters orders night_letters night_orders : OneOf) → is_simple (night_app letters orders night_letters night_orders) ≡ true
night_is_simple letters orders night_letters night_orders = refl

pub live_is_simple : (letters orders formats : OneOf) → is_simple (live_app letters orders formats) ≡ true
live_is_simple letters orders formats = refl

pub follow_is_simple : (letters orders formats : OneOf) → is_simple (follow_app letters orders formats) ≡ true
follow_is_simple letters orders formats = refl

-- what it finds by a command that it reads as this one
pub subcommand_found : {app : App} (command : Command) (words : List (List ℕ)) (m : ArgMatches) → HasApp app command → is_simple app ≡ true → HasMatchesOf (app_of command) words m
    → subcommand_rows_of m ≡ subcommand_of app words
subcommand_found command words m is simple has = (has (ap is_simple is.0 ∙ simple)).1 ∙ ap (λ (a : App). subcommand_of a words) is.0

pub matches_found : {app : App} (command : Command) (words : List (List ℕ)) (m : ArgMatches) → HasApp app command → is_simple app ≡ true → HasMatchesOf (app_of command) words m
    → rows_of (found_of m) ≡ matches_of app words
matches_found command words m is simple has = (has (ap is_simple is.0 ∙ simple)).0 ∙ ap (λ (a : App). matches_of a words) is.0

-- what holds of what was found holds of the answer
pub just_read : {T : Type 0} {P Q : T → Type 0} (found : Option T) (answer : Result T LineFault) → ((x : T) → P x → Q x) → IfSome found P → ReadsJust found answer → IfOk answer Q
just_read None (Err fault) leads holds same = tt
just_read None (Ok x) leads holds same = absurd same
just_read (Some x) (Err fault) leads holds same = absurd same
just_read {T} {P} {Q} (Some x) (Ok y) leads holds same = subst Q (sym same) (leads x holds)

-- what a getter reads is what the rows have
pub named : {A : Type 0} (g : List ℕ → Option A) (f : Found) (id : List ℕ) (text : Option (List ℕ)) → text ≡ first_value f id → option_and_then g text ≡ option_and_then g (first_of id (rows_of f))
named g f id text is = ap (option_and_then g) (is ∙ first_value-rows f id)

-- what holds of an `Ok` still holds after `map_err`
pub kept_by_map_err : {T E D : Type 0} (P : T → Type 0) (Q : E → Type 0) (old : Result T E) (new : Result T D) → IfOk old P → MatchResult old (λ x. new ≡ Ok x) Q
    → is_ok new ≡ is_ok old → IfOk new P
kept_by_map_err {T} {E} {D} P Q (Ok x) new holds same variant = subst (λ (r : Result T D). IfOk r P) (sym same) holds
kept_by_map_err P Q (Err e) (Ok x) holds same variant = absurd (false≢true (sym variant))
kept_by_map_err P Q (Err e) (Err d) holds same variant = tt

-- a getter that finds no text, or this text
pub none_named : {A : Type 0} (g : List ℕ → Option A) (f : Found) (id : List ℕ) (got : Option (Bor (List ℕ))) → option_map (λ (s : Bor (List ℕ)). s.now) got ≡ first_value f id → got ≡ None
    → None ≡ option_and_then g (first_of id (rows_of f))
none_named g f id got is none = named g f id None (rw none at is)

pub text_named : {A : Type 0} (g : List ℕ → Option A) (f : Found) (id : List ℕ) (got : Option (Bor (List ℕ))) (text : Bor (List ℕ)) → option_map (λ (s : Bor (List ℕ)). s.now) got ≡ first_value f id
    → got ≡ Some text → g text.now ≡ option_and_then g (first_of id (rows_of f))
text_named g f id got text is some = named g f id (Some text.now) (rw some at is)

-- `--readings` names the number that was read, if it is not over 1,000
pub readings_read : (f : Found) (n : ℕ) (answer : Option ℕ) → answer ≡ then_some (nat_le n 1000) n → (one_text f (codes "readings") ≡ None → Some n ≡ None)
    → ((t : List ℕ) → one_text f (codes "readings") ≡ Some t → digits_value 10 (without_leading_plus t) ≡ n) → IfSome answer (λ k. (k ≤ 1000) × (readings_in (rows_of f) ≡ Some k))
readings_read f n answer is none read = subst (λ (o : Option ℕ). IfSome o (λ k. (k ≤ 1000) × (readings_in (rows_of f) ≡ Some k))) (sym is) (go (nat_le n 1000) refl)
  where
    number : List ℕ → ℕ
    number text = digits_value 10 (without_leading_plus text)

    told : (o : Option (List ℕ)) → one_text f (codes "readings") ≡ o → option_map number o ≡ Some n
    told None e = absurd (false≢true (ap is_some (sym (none e))))
    told (Some t) e = ap Some (read t e)

    named_is : readings_in (rows_of f) ≡ Some n
    named_is = ap (option_map number) (sym (one_text-rows f (codes "readings"))) ∙ told (one_text f (codes "readings")) refl

    go : (b : Bool) → nat_le n 1000 ≡ b → IfSome (then_some b n) (λ k. (k ≤ 1000) × (readings_in (rows_of f) ≡ Some k))
    go true low = (leb-true n 1000 low, named_is)
    go false low = tt

-- a name of neither form is of none
pub neither_named : (name : List ℕ) → (name ≡ codes "text" → ⊥) → (name ≡ codes "json" → ⊥) → format_named name ≡ None
neither_named name not_text not_json = go (bytes_eq name (codes "text")) refl (bytes_eq name (codes "json")) refl
  where
    go : (a : Bool) → bytes_eq name (codes "text") ≡ a → (b : Bool) → bytes_eq name (codes "json") ≡ b → (if a then Some Text else if b then Some Json else None) ≡ None
    go true text b json = absurd (not_text ((bytes_eq-Decides name (codes "text")).0 text))
    go false text true json = absurd (not_json ((bytes_eq-Decides name (codes "json")).0 json))
    go false text false json = refl
