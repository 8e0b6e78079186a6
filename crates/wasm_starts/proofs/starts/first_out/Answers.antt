use Rattle.std.proofs.Common.{◌∙◌, ◌*◌, ℕ, ap}
use Rattle.wasm_execution.specs.Starts.{first_bytes, first_entries}
use Rattle.wasm_starts.proofs.Outs.{out_in_elements, out_in_segments}
use Rattle.wasm_starts.proofs.starts.first_out.Goals as goal

pub returns-in-Some : goal.returns-in-Some
returns-in-Some c =
    out_in_elements c.args.m.now c.args.globals.now c.first_entries.result c.as_slice-elements.result.now c.in-Some.at c.requires (c.first_entries.ensures ∙ ap first_entries c.as_slice-2.ensures.items) c.as_slice-elements.ensures.items c.in-Some.ensures

pub returns-in-None : goal.returns-in-None
returns-in-None c =
    out_in_segments c.args.m.now c.args.globals.now c.first_entries.result (65536 * c.from-bytes.result) c.as_slice-elements.result.now c.as_slice-segments.result.now c.first_segment_out.result c.requires
    (c.first_entries.ensures ∙ ap first_entries c.as_slice-2.ensures.items) (ap (λ (n : ℕ). 65536 * n) c.from-bytes.ensures ∙ c.first_pages.ensures ∙ ap first_bytes c.as_slice.ensures.items) c.as_slice-elements.ensures.items c.as_slice-segments.ensures.items c.in-None.ensures c.first_segment_out.ensures
