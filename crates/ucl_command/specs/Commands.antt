-- What the words of a command line ask for: how `clap` reads them by the commands of the programs, and what options name.
use Rattle.std.specs.Prelude.{◌≡◌, ℕ, Bool, true, false, List, [], ◌∷◌, Option, Some, None, codes, option_map, option_and_then, if◌then◌else◌, pos}
use Rattle.std.specs.Borrow.{Bor}
use Rattle.std.specs.Str.{bytes_eq}
use Rattle.std.specs.Str.Parse.{digits_value, without_leading_plus}
use Rattle.clap.specs.Simple.{App, app_of, matches_of, new_app, new_rule, new_shape, on_top, subcommand_of, with_rule, with_subcommand}
use Rattle.clap.specs.Walk.{Row, Rule, first_of, one_of, rule_of}
use Rattle.clap.specs.declared.builder.action.ArgAction.TheVariants.{Set, SetTrue}
use Rattle.clap.specs.declared.builder.arg.Arg.{Arg}
use Rattle.clap.specs.declared.builder.command.Command.{Command}
use Rattle.clap.specs.declared.builder.command.Command.TheViews.{out-Command}
use Rattle.clap.specs.declared.builder.value_parser.ValueParser.TheVariants.{Names, Signed}
use Rattle.ucl_order.specs.Names.{profile_named}
use Rattle.ucl_order.specs.declared.profile.Profile.{Profile}
use Rattle.ucl_screen.specs.Screen.{letter_in}
use Rattle.ucl_command.specs.declared.follow.FollowArgs.{FollowArgs}
use Rattle.ucl_command.specs.declared.follow.FollowShape.{FollowShape}
use Rattle.ucl_command.specs.declared.follow.FollowShape.TheVariants.{Matches}
use Rattle.ucl_command.specs.declared.follow.FollowShape.TheVariants as shape
use Rattle.ucl_command.specs.declared.night.Line.{Line}
use Rattle.ucl_command.specs.declared.night.Line.TheVariants.{Feed, Show, Night}
use Rattle.ucl_command.specs.declared.options.Format.{Format}
use Rattle.ucl_command.specs.declared.options.Format.TheVariants.{Text, Json}

-- The commands. --

-- the names that the value of an option has to be one of
abbrev pub OneOf : Type 0
OneOf = Bor (List (Bor (List ℕ)))

-- the option `--name` of one value
abbrev pub option_rule : List ℕ → Rule
option_rule name = record (new_rule name) { long = Some name; action = Some Set; value_names = 1 }

-- the option `--name` of one value, which is one of these
abbrev pub choice_rule : List ℕ → OneOf → Rule
choice_rule name values = record (option_rule name) { parser = Some (Names values) }

-- the option, which has this value if it is left out
abbrev pub or_else : List ℕ → Rule → Rule
or_else value rule = record rule { defaults = value ∷ [] }

-- the option `--readings` of a number from 0 to 1,000
abbrev pub readings_rule : Rule
readings_rule = or_else (codes "0") (record (option_rule (codes "readings")) { parser = Some (Signed (pos 0) (pos 1000)) })

-- the option `--name` without a value
abbrev pub flag_rule : List ℕ → Rule
flag_rule name = record (new_rule name) { long = Some name; action = Some SetTrue }

-- a program's command, which has a version
abbrev pub program_app : List ℕ → App
program_app name = on_top (λ shape. record shape { has_version = true }) (new_app name)

-- the subcommand `show` of `ucl_night`
abbrev pub show_app : OneOf → OneOf → App
show_app letters orders = with_rule (with_rule (new_app (codes "show")) (or_else (codes "A") (choice_rule (codes "group") letters)))
    (or_else (codes "uefa") (choice_rule (codes "order") orders))

-- the subcommand `night` of `ucl_night`
abbrev pub play_app : OneOf → OneOf → App
play_app letters orders =
    with_rule (with_rule (with_rule (new_app (codes "night")) (or_else (codes "A") (choice_rule (codes "group") letters))) readings_rule)
    (or_else (codes "uefa") (choice_rule (codes "order") orders))

-- the command of `ucl_night`: the lists of letters and orders are those of `show`, and those of `night`
abbrev pub night_app : OneOf → OneOf → OneOf → OneOf → App
night_app letters orders night_letters night_orders =
    with_subcommand (with_subcommand (with_subcommand (on_top (λ shape. record shape { subcommand_required = true }) (program_app (codes "ucl_night"))) (new_shape (codes "feed")))
    (show_app letters orders).top) (play_app night_letters night_orders).top

-- the command of `ucl_live`
abbrev pub live_app : OneOf → OneOf → OneOf → App
live_app letters orders formats =
    with_rule (with_rule (with_rule (with_rule (program_app (codes "ucl_live")) (choice_rule (codes "group") letters)) (choice_rule (codes "order") orders))
    (flag_rule (codes "screens"))) (or_else (codes "text") (choice_rule (codes "format") formats))

-- the command of `ucl_follow`, whose `--matches` does not go with `--format`
abbrev pub follow_app : OneOf → OneOf → OneOf → App
follow_app letters orders formats =
    with_rule (with_rule (with_rule (with_rule (program_app (codes "ucl_follow")) (choice_rule (codes "group") letters)) (choice_rule (codes "order") orders))
    (or_else (codes "text") (choice_rule (codes "format") formats))) (record (flag_rule (codes "matches")) { is_free = false })

-- `clap` reads an option by this rule, and it is of one command alone
abbrev pub HasRule : Rule → Arg → Type 0
HasRule rule arg = (rule_of arg ≡ rule) × (arg.global ≡ false)

-- `clap` reads a command as this one, and each of its options is of one command alone
abbrev pub HasApp : App → Command → Type 0
HasApp app command = (app_of command ≡ app) × ((out-Command command).has_globals ≡ false)

-- What options name, by the rows of what `clap` found. --

-- the group that `--group` names
abbrev pub group_in : List Row → Option ℕ
group_in rows = option_and_then letter_in (first_of (codes "group") rows)

-- the order that `--order` names
abbrev pub order_in : List Row → Option Profile
order_in rows = option_and_then profile_named (first_of (codes "order") rows)

-- the number that `--readings` names
abbrev pub readings_in : List Row → Option ℕ
readings_in rows = option_map (λ text. digits_value 10 (without_leading_plus text)) (one_of (codes "readings") rows)

-- the form with this name
abbrev pub format_named : List ℕ → Option Format
format_named name = if bytes_eq name (codes "text") then Some Text else if bytes_eq name (codes "json") then Some Json else None

-- the form that `--format` names
abbrev pub format_in : List Row → Option Format
format_in rows = option_and_then format_named (first_of (codes "format") rows)

-- whether the flag `--name` is there
abbrev pub HasFlag : List ℕ → List Row → Bool → Type 0
HasFlag name rows there = (one_of name rows ≡ Some (codes "true") → there ≡ true) × (one_of name rows ≡ Some (codes "false") → there ≡ false)

-- What words ask for. --

-- a subcommand, by its name and rows, asks for this of `ucl_night`
abbrev pub IsAsked : Option (List ℕ × List Row) → Line → Type 0
IsAsked None line = ⊥
IsAsked (Some (name, rows)) Feed = name ≡ codes "feed"
IsAsked (Some (name, rows)) (Show group profile) = (name ≡ codes "show") × (group_in rows ≡ Some group) × (order_in rows ≡ Some profile)
IsAsked (Some (name, rows)) (Night group readings profile) = (name ≡ codes "night") × (group_in rows ≡ Some group) × (readings_in rows ≡ Some readings) × (order_in rows ≡ Some profile)

-- the words of a command line ask for this of `ucl_night`
abbrev pub AsksFor : List (List ℕ) → Line → Type 0
AsksFor words line = (letters orders night_letters night_orders : OneOf) × IsAsked (subcommand_of (night_app letters orders night_letters night_orders) words) line

-- rows ask for this of `ucl_live`: a group and an order, perhaps, whether screens are shown, and a form of the answers
pub record IsLiveAsked (rows : List Row) (group : Option ℕ) (profile : Option Profile) (screens : Bool) (format : Format) : Type 0 where
  pub group_is : group ≡ group_in rows
  pub profile_is : profile ≡ order_in rows
  pub screens_are : HasFlag (codes "screens") rows screens
  pub format_is : format_in rows ≡ Some format

-- the words of a command line ask for this of `ucl_live`
abbrev pub AsksLive : List (List ℕ) → Option ℕ → Option Profile → Bool → Format → Type 0
AsksLive words group profile screens format =
    (letters orders formats : OneOf) × IsLiveAsked (matches_of (live_app letters orders formats) words) group profile screens format

-- what is written in this form, or, if matches are asked for, in their place
abbrev pub shape_for : Format → Bool → FollowShape
shape_for format true = Matches
shape_for Text false = shape.Text
shape_for Json false = shape.Json

-- rows ask for this of `ucl_follow`
pub record IsFollowAsked (rows : List Row) (args : FollowArgs) : Type 0 where
  pub group_is : args.group ≡ group_in rows
  pub profile_is : args.profile ≡ order_in rows
  pub matches : Bool
  pub matches_are : HasFlag (codes "matches") rows matches
  pub shape_is : option_map (λ format. shape_for format matches) (format_in rows) ≡ Some args.shape

-- the words of a command line ask for this of `ucl_follow`
abbrev pub AsksFollow : List (List ℕ) → FollowArgs → Type 0
AsksFollow words args = (letters orders formats : OneOf) × IsFollowAsked (matches_of (follow_app letters orders formats) words) args
