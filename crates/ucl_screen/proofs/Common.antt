-- The words and lemmas from elsewhere that the proofs of this crate share.
pub use Rattle.csv.proofs.ReadFacts.{rows-end, rows-more}
pub use Rattle.csv.specs.Machine.{Read, ends_at_end, field_after, fields_after, is_end, step}
unfoldable pub use Rattle.csv.specs.Machine.{next_record}
pub use Rattle.csv.specs.Reading.{ReadRecord, default_config, has_failed, is_bom, took_first}
unfoldable pub use Rattle.csv.specs.Reading.{Reached, records_from, strip_bom}
pub use Rattle.csv.specs.Records.{fields_of}
unfoldable pub use Rattle.csv.specs.Records.{field_at}
pub use Rattle.csv.specs.declared.parser.Action.{Action}
pub use Rattle.csv.specs.declared.parser.State.{State}
pub use Rattle.csv.specs.declared.reader.Reader.{Reader}
pub use Rattle.std.proofs.Common.{Bool, List, None, Ok, Option, Some, [], add-one, ap, append-nil, append_assoc, arith, codes, cond, drop}
pub use Rattle.std.proofs.Common.{drop-cons, eq-eqb, false, get_or, if◌then◌else◌, inl, inr, length, length-append, map, refl}
pub use Rattle.std.proofs.Common.{replicate, rules, string_bytes, subst, suc, sym, take, true, true≢false, zero, ℕ, ◌&&◌, ◌*◌, ◌++◌, ◌+◌}
pub use Rattle.std.proofs.Common.{◌-◌, ◌<◌, ◌==◌, ◌^◌, ◌∙◌, ◌∷◌, ◌≡◌, ◌≤◌, ◌⊎◌}
pub use Rattle.std.proofs.Math.Nat.{pow-le-pow_right, pow-suc}
pub use Rattle.std.proofs.lemmas.Bool.{and_parts, cases_Bool}
pub use Rattle.std.proofs.lemmas.Bool.Decides.{nat_tests}
pub use Rattle.std.proofs.lemmas.Fmt.{length-decimal-le}
pub use Rattle.std.proofs.lemmas.Grind.{flat_map-append, take-set_at}
pub use Rattle.std.proofs.lemmas.List.{drop_all, length-replicate, length-set, take_all, take_more}
pub use Rattle.std.proofs.lemmas.Result.{err_from_is_err_and}
pub use Rattle.std.proofs.lemmas.Str.{IsUtf8-from_ascii}
pub use Rattle.std.proofs.lemmas.Str.Ascii.{IsAscii-cons, IsAscii-nil}
pub use Rattle.std.specs.Borrow.{Bor}
pub use Rattle.std.specs.Io.KnownBytes.{Consumes}
pub use Rattle.std.specs.List.{fold, list_all, slice_index_or}
pub use Rattle.std.specs.Prelude.{Err, IfErr, IfSome, Result, decimal, flat_map, nat_le}
pub use Rattle.std.specs.Result.{is_ok}
pub use Rattle.std.specs.Str.{IsAscii, IsUtf8}
pub use Rattle.ucl_board.proofs.HistoryTheorems.{each_match}
pub use Rattle.ucl_board.proofs.HistoryTheorems.{versions}
pub use Rattle.ucl_board.specs.Fixtures.{match_numbers}
pub use Rattle.ucl_board.specs.History.{after_attempt}
pub use Rattle.ucl_board.specs.Words.{max_version, read_words}
pub use Rattle.ucl_board.specs.declared.entry.Entry.{Entry}
pub use Rattle.ucl_board.specs.declared.night_event.NightEvent.{NightEvent}
pub use Rattle.ucl_order.specs.Roster.{is_name, is_printed}
pub use Rattle.ucl_order.specs.Rows.{IsWithinTable}
pub use Rattle.ucl_order.specs.declared.mark.Mark.{Mark}
pub use Rattle.ucl_order.specs.declared.table.Row.{Row}
pub use Rattle.ucl_screen.specs.Events.{IsBoardAfter, attempt_of, event_of}
pub use Rattle.ucl_screen.specs.Input.{CallsRead, Reads, whole_input}
pub use Rattle.ucl_screen.specs.Lines.{difference_text, left, mark_text, right}
unfoldable pub use Rattle.ucl_screen.specs.Lines.{place_line}
unfoldable pub use Rattle.ucl_screen.specs.Matches.{match_line, matches_text}
pub use Rattle.ucl_screen.specs.Numbers.{hex_digit, hex_word, is_digit, number}
unfoldable pub use Rattle.ucl_screen.specs.Numbers.{digits_after, hex_after}
pub use Rattle.ucl_screen.specs.Parsing.{AnswersAsSaid, MeansNight, MeansSheet, Refuses, night_seen, sheet_seen}
pub use Rattle.ucl_screen.specs.Rows.{Fields, FourFields, IsReading, bytes_left, four_of, rows_left, rows_of}
unfoldable pub use Rattle.ucl_screen.specs.Rows.{rows_from}
pub use Rattle.ucl_screen.specs.Screen.{IsGroup, in_play, letter_in, row_line}
pub use Rattle.ucl_screen.specs.Script.{IsFaultOfScript, WrittenSheet, night_of_rows, said_by, sheet_of, sheet_of_rows, word_of_row, ◌>>=◌}
unfoldable pub use Rattle.ucl_screen.specs.Script.{events_from, words_from}
pub use Rattle.ucl_screen.specs.Theorems.{LinesHave53Columns}
pub use Rattle.ucl_screen.specs.declared.fault.InputFault.{InputFault}
pub use Rattle.ucl_screen.specs.declared.fault.InputFault.TheVariants.{BadRow}
pub use Rattle.ucl_screen.specs.declared.night.Night.{Night}
pub use Rattle.ucl_screen.specs.declared.sheet.Sheet.{Sheet}
