-- The words and lemmas from elsewhere that the proofs of this crate share.
pub use Rattle.csv.specs.Machine.{Read, after_end, ends_at_end, in_field, step}
pub use Rattle.csv.specs.Reading.{default_config, records}
pub use Rattle.csv.specs.declared.parser.State.{State}
pub use Rattle.std.proofs.Common.{Bool, List, None, Option, Some, [], ap, append-nil, append_assoc, arith, drop, false, get_or, inl, inr, length, length-append, min}
pub use Rattle.std.proofs.Common.{refl, set, subst, suc, sym, take, true, zero, ℕ, ◌%◌, ◌*◌, ◌++◌, ◌+◌, ◌-◌, ◌/◌, ◌<◌, ◌==◌, ◌^◌, ◌∙◌, ◌∷◌, ◌≡◌, ◌≤◌, ◌⊎◌}
pub use Rattle.std.proofs.Math.Nat.{pow-suc}
pub use Rattle.std.proofs.lemmas.Bool.{and_parts, cases_Bool}
pub use Rattle.std.proofs.lemmas.List.{drop_more, take-append-drop, take_all, take_more}
pub use Rattle.std.specs.Fmt.{digit_glyph}
pub use Rattle.std.specs.Io.KnownBytes.{Appends}
pub use Rattle.std.specs.List.{list_all}
pub use Rattle.ucl_io.proofs.Cuts.{rest_of}
pub use Rattle.ucl_order.specs.Roster.{is_printed}
pub use Rattle.ucl_rows.specs.BadRows.{shown_text}
pub use Rattle.ucl_rows.specs.Lines.{word_lines, word_line}
pub use Rattle.ucl_rows.specs.Rows.{Row, fits, of_rows, said_on}
pub use Rattle.ucl_rows.specs.Run.{IsStopped}
pub use Rattle.ucl_rows.specs.declared.fault.RunFault.{RunFault}
pub use Rattle.ucl_screen.specs.Numbers.{hex_digits}
