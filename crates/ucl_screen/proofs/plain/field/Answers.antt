use Rattle.ucl_screen.proofs.Common.{drop, sym, ◌+◌, ◌∙◌}
use Rattle.ucl_io.proofs.Cuts.{rest_of}
use Rattle.ucl_screen.proofs.Commas.{follows_field, no_first_quote}
use Rattle.ucl_screen.proofs.PlainRows.{bare_field, quoted_field}
use Rattle.ucl_screen.proofs.plain.field.Goals as goal

pub returns-then-not-begins_with-clause-begins : goal.returns-then-not-begins_with-clause-begins
returns-then-not-begins_with-clause-begins c =
    let text = c.args.text.now in
    let at = c.bare_length-at.result in
    rw (rest_of at text) (bare_field text at (sym c.begins_with.ensures ∙ c.if-not-begins_with.true) c.bare_length-at.ensures.joining)

pub returns-then-at-quoted-clause-begins : goal.returns-then-at-quoted-clause-begins
returns-then-at-quoted-clause-begins c =
    let text = c.args.text.now in
    let at = c.quoted_length-at.result in
    let quoted = sym c.begins_with.ensures ∙ c.if-not-begins_with.false in
    let inside = rw (rest_of 1 text) at c.if-at-quoted.true in
    rw (rest_of 1 text, rest_of (at + 1) (drop 1 text))
    (quoted_field text at quoted (rw (rest_of 1 text) at c.quoted_length-at.ensures.quotable) inside (rw (rest_of 1 text) at (c.quoted_length-at.ensures.stops c.if-at-quoted.true)))

pub returns-then-not-begins_with-clause-plain : goal.returns-then-not-begins_with-clause-plain
returns-then-not-begins_with-clause-plain c = λ plain.
    let at = c.bare_length-at.result in
    let bare = c.bare_length-at.ensures in
    rw (rest_of at c.args.text.now) (follows_field c.args.text.now at plain bare.within bare.joining bare.stops)

pub returns-then-at-quoted-clause-plain : goal.returns-then-at-quoted-clause-plain
returns-then-at-quoted-clause-plain c = λ plain. absurd (no_first_quote c.args.text.now plain (sym c.begins_with.ensures ∙ c.if-not-begins_with.false))

pub returns-else-at-quoted-clause-plain : goal.returns-else-at-quoted-clause-plain
returns-else-at-quoted-clause-plain c = λ plain. no_first_quote c.args.text.now plain (sym c.begins_with.ensures ∙ c.if-not-begins_with.false)
