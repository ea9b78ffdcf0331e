-- The words and lemmas from elsewhere that the proofs of this crate share.
pub use Rattle.json.proofs.Printed.Strings.{escape_byte_plain}
pub use Rattle.json.specs.Print.{escape, quoted}
unfoldable pub use Rattle.json.specs.Print.{escape_byte}
unfoldable pub use Rattle.serde_json.proofs.OnLiterals.{serde_json_on_literals}
pub use Rattle.serde_json.specs.Data.{Data, Items, Members, Num, array, boolean, depth, float, item, items_depth, member, negative}
pub use Rattle.serde_json.specs.Data.{no_items, no_members, null, number, object, put, string, unsigned}
pub use Rattle.serde_json.specs.Find.{is_float, of_integer}
pub use Rattle.serde_json.specs.Read.{number_of, of_items, of_json, of_members, read}
pub use Rattle.serde_json.specs.View.{items_view, view}
pub use Rattle.serde_json.specs.Written.{comma_if, compact_text, has_float, items_have_float, items_outline, items_text, members_outline}
pub use Rattle.serde_json.specs.Written.{members_text, number_text, outline}
pub use Rattle.serde_json.specs.declared.value.Value.{Value, the_lemmas}
pub use Rattle.std.proofs.Common.{List, [], ap, append_assoc, arith, codes, cond, drop, false, get_or, inl, inr, le-leb, leb-true, length}
pub use Rattle.std.proofs.Common.{length-append, negsuc, pos, refl, replicate, rules, subst, suc, sym, take, true, true≢false, zero, ℕ, ℤ}
pub use Rattle.std.proofs.Common.{◌%◌, ◌&&◌, ◌*◌, ◌++◌, ◌+◌, ◌-ℤ◌, ◌-◌, ◌/◌, ◌<◌, ◌==◌, ◌^◌, ◌∙◌, ◌∷◌, ◌≡◌, ◌≢◌, ◌≤◌}
pub use Rattle.std.proofs.lemmas.Bool.{and_from, and_parts, cases_Bool, cases_eq, cases_lt, eq-eqb, lt-leb}
pub use Rattle.std.proofs.lemmas.Fmt.{IsAscii-decimal, IsAscii-signed, length-decimal-le}
pub use Rattle.std.proofs.lemmas.List.{drop_all, drop_more, length-map, length-replicate, take_all, take_more}
pub use Rattle.std.proofs.lemmas.List.Elements.{All-cons, All-get_or, All-head, All-nil, All-tail}
pub use Rattle.std.proofs.lemmas.Str.{IsUtf8-append, IsUtf8-from_ascii, IsUtf8-from_is_utf8, IsUtf8-nil, is_utf8-from_IsUtf8}
pub use Rattle.std.specs.Fmt.{digit_glyph, digits_onto}
unfoldable pub use Rattle.std.specs.Fmt.{digits}
pub use Rattle.std.specs.List.{list_all}
pub use Rattle.std.specs.Prelude.{All, Err, IfOk, IsOk, Ok, Result, decimal, map, nat_le, nat_lt, option_and_then, option_map}
pub use Rattle.std.specs.Prelude.{slice_index_or, ⊤}
pub use Rattle.std.specs.Str.{is_utf8}
pub use Rattle.ucl_board.specs.Fixtures.{IsSlot, match_numbers}
pub use Rattle.ucl_board.specs.Words.{AreWords, game_at, read_words, version_of, word_at}
pub use Rattle.ucl_json.specs.BoardLines.{if_read, just, listed, parse_board_state, parse_roster, parse_word}
unfoldable pub use Rattle.ucl_json.specs.BoardLines.{parse_board_line, parse_each}
pub use Rattle.ucl_json.specs.BoardLines.{unless_bad}
pub use Rattle.ucl_json.specs.Lines.{AreLinesOfValues, IsFlat, IsOneLine, json_line}
pub use Rattle.ucl_json.specs.Values.{club_items, club_value, items_of, mark_name, match_items}
unfoldable pub use Rattle.ucl_json.specs.Values.{edition_screen_value}
pub use Rattle.ucl_json.specs.Values.{match_value, number_value, place_items, refused_by, reply_value}
unfoldable pub use Rattle.ucl_json.specs.Values.{matches_value, place_value}
pub use Rattle.ucl_json.specs.Values.{sides_value, with_member, word_items, words_value}
unfoldable pub use Rattle.ucl_json.specs.Values.{screen_value}
pub use Rattle.ucl_json.specs.declared.header.BoardHeader.{BoardHeader}
pub use Rattle.ucl_order.proofs.KeysFit.{words_valid}
pub use Rattle.ucl_order.proofs.Limits.{rows_within}
pub use Rattle.ucl_order.specs.Roster.{IsClub, IsRoster, NamedClub, bad_slot, club_in, is_name, is_printed, name_of, named}
pub use Rattle.ucl_order.specs.Rows.{IsWithinTable, rows_of}
unfoldable pub use Rattle.ucl_order.specs.Rows.{row_of}
pub use Rattle.ucl_order.specs.declared.profile.Profile.{Profile}
pub use Rattle.ucl_order.specs.declared.table.Row.{Row}
pub use Rattle.ucl_screen.proofs.Columns.{lines_wide, printed_utf8}
pub use Rattle.ucl_screen.specs.Numbers.{hex_digits}
pub use Rattle.ucl_screen.specs.Screen.{IsGroup, columns, in_play, row_line}
unfoldable pub use Rattle.ucl_screen.specs.Screen.{screen_text}
pub use Rattle.ucl_word.specs.Names.{found_of, kind_name, refusal_code, refusal_name}
pub use Rattle.ucl_word.specs.declared.record.MatchRecord.{MatchRecord}
pub use Rattle.ucl_word.specs.declared.refusal.Refusal.{Refusal}
