use Rattle.rich_text.proofs.Faults.{nothing, in_a_number, i32_above, i32_below, i64_above, i64_below, index_above, index_negative, minus_zero, leading_zero, minus_leading_zero, other_version, form_before_token, in_parentheses, without_parentheses, no_number, after_else, no_float, string_open, string_of_65, string_empty, string_of_large_letters, form_feed, encoding_first, encoding_behind, encoding_cut, two_modules, closed_twice, out_of_order, too_deep, line_of_a_form, no_token, no_list, overlong, surrogate, past_the_last}
use Rattle.rich_text.proofs.faults_are_found.Goals as goal

pub returns : goal.returns
returns c = record { nothing = nothing; in_a_number = in_a_number; i32_above = i32_above; i32_below = i32_below; i64_above = i64_above; i64_below = i64_below; index_above = index_above; index_negative = index_negative; minus_zero = minus_zero; leading_zero = leading_zero; minus_leading_zero = minus_leading_zero; other_version = other_version; form_before_token = form_before_token; in_parentheses = in_parentheses; without_parentheses = without_parentheses; no_number = no_number; after_else = after_else; no_float = no_float; string_open = string_open; string_of_65 = string_of_65; string_empty = string_empty; string_of_large_letters = string_of_large_letters; form_feed = form_feed; encoding_first = encoding_first; encoding_behind = encoding_behind; encoding_cut = encoding_cut; two_modules = two_modules; closed_twice = closed_twice; out_of_order = out_of_order; too_deep = too_deep; line_of_a_form = line_of_a_form; no_token = no_token; no_list = no_list; overlong = overlong; surrogate = surrogate; past_the_last = past_the_last }
