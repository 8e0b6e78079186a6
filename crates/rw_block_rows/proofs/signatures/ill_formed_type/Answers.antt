-- The parameters are looked at first, then the results and the locals.
use Rattle.std.proofs.Common.{◌∙◌, List, ap}
use Rattle.std.specs.Option.{option_copied}
use Rattle.rw_types.specs.declared.instrs.LocalTy.{LocalTy}
use Rattle.rich_types.specs.Scopes.{scope_of}
use Rattle.rich_rules.specs.Blocks.{local_types}
use Rattle.rich_rules.specs.Forms.{first_ill_formed}
use Rattle.rw_block_rows.proofs.Firsts.{in_first, in_second, in_third}
use Rattle.rw_block_rows.proofs.signatures.ill_formed_type.Goals as goal

pub returns-in-Some : goal.returns-in-Some
returns-in-Some c =
    let b = c.args.b.now in
    in_first (scope_of c.args.c.now.binders) b.params b.results (local_types b.locals) c.in-Some.t.now (c.in-Some.ensures ∙ ap (first_ill_formed (scope_of c.args.c.now.binders)) c.as_slice.ensures.items)

pub returns-in-Some-first_ill_formed : goal.returns-in-Some-first_ill_formed
returns-in-Some-first_ill_formed c =
    let b = c.args.b.now in
    in_second (scope_of c.args.c.now.binders) b.params b.results (local_types b.locals) c.in-Some-first_ill_formed.t.now (c.in_default.ensures ∙ ap (first_ill_formed (scope_of c.args.c.now.binders)) c.as_slice.ensures.items) (c.in-Some-first_ill_formed.ensures ∙ ap (first_ill_formed (scope_of c.args.c.now.binders)) c.as_slice-2.ensures.items)

pub returns : goal.returns
returns c =
    let b = c.args.b.now in
    in_third (scope_of c.args.c.now.binders) b.params b.results (local_types b.locals) (option_copied c.ill_formed_local.result) (c.in_default.ensures ∙ ap (first_ill_formed (scope_of c.args.c.now.binders)) c.as_slice.ensures.items) (c.in_default-first_ill_formed.ensures ∙ ap (first_ill_formed (scope_of c.args.c.now.binders)) c.as_slice-2.ensures.items) (c.ill_formed_local.ensures ∙ ap (λ (ls : List LocalTy). first_ill_formed (scope_of c.args.c.now.binders) (local_types ls)) c.as_slice-3.ensures.items)
