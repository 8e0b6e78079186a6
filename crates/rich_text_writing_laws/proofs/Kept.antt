-- How a value is written holds what its row holds: a line for each form.
use Rattle.std.proofs.Common.{◌≡◌, ◌∙◌, ℕ, List, [], ◌∷◌, sym, ap, subst, inl, inr, Option, Some, None}
use Rattle.std.specs.Prelude.{⊤}
use Rattle.rw_types.specs.declared.instrs.Instr.{Instr, out-Instr, roll-Instr, out-roll-Instr, Num}
use Rattle.rw_types.specs.declared.instrs.Instr.TheVariants.{rolls-ArrayFree, rolls-ArrayGet, rolls-ArrayLen, rolls-ArrayMalloc, rolls-ArraySet, rolls-Block, rolls-Br, rolls-BrIf, rolls-Call, rolls-CallIndirect, rolls-CapJoin, rolls-CapSplit, rolls-Coderef, rolls-Drop, rolls-ExistPack, rolls-ExistUnpack, rolls-GlobalGet, rolls-GlobalSet, rolls-Group, rolls-I32Const, rolls-I64Const, rolls-If, rolls-Inst, rolls-LocalGet, rolls-LocalSet, rolls-LocalTake, rolls-Loop, rolls-MemPack, rolls-MemUnpack, rolls-Nop, rolls-Num, rolls-Print, rolls-Qualify, rolls-RecFold, rolls-RecUnfold, rolls-RefJoin, rolls-RefSplit, rolls-Return, rolls-StructFree, rolls-StructGet, rolls-StructMalloc, rolls-StructSet, rolls-StructSwap, rolls-Ungroup, rolls-Unit, rolls-Unreachable, rolls-VariantCase, rolls-VariantMalloc}
use Rattle.rw_types.specs.declared.instrs.Instr.TheOpen.{Instr-F}
use Rattle.rw_types.specs.declared.numbers.NumName.{NumName}
use Rattle.rw_types.specs.declared.numbers.NumName.TheVariants as num
use Rattle.rw_types.specs.declared.types.Heap.TheOpen.{Ty-F, Pre-F, Heap-F}
use Rattle.rw_types.specs.declared.types.FunType.{FunType}
use Rattle.rw_types.specs.declared.types.Heap.{Heap, out-Heap, roll-Heap, out-roll-Heap}
use Rattle.rw_types.specs.declared.types.Slot.{Slot}
use Rattle.rw_types.specs.declared.types.Pre.{Pre, out-Pre, roll-Pre, out-roll-Pre}
use Rattle.rw_types.specs.declared.types.Pre.TheVariants.{rolls-Unit as pre_unit_rolls, rolls-I32, rolls-I64, rolls-Tuple, rolls-Ref, rolls-Ptr, rolls-Cap, rolls-Own, rolls-Hidden, rolls-Code}
use Rattle.rw_types.specs.declared.types.Heap.TheVariants.{rolls-Struct, rolls-Variant, rolls-Array, rolls-Exist}
use Rattle.rw_types.specs.declared.types.Ty.{Ty, out-Ty, roll-Ty, out-roll-Ty}
use Rattle.rw_types.specs.declared.types.Ty.TheVariants.{rolls-Of, rolls-Var, rolls-Rec}
use Rattle.rw_types.specs.declared.types.Qual.TheVariants.{Unr, Lin}
use Rattle.rich_text.specs.Forms.{Form, Meaning, qualifier_form, memory_form, privilege_form, type_form, types_form, pretype_form, heap_form, slot_form, function_type_form, binder_form, binders_form, local_form, local_types_form, locals_form, instruction_form, argument_form, arm_form, then_form, else_form, function_form, export_form, import_form, global_form, mutability_form, version_form, module_form}
use Rattle.rich_text.specs.Grammars.{Part, PartValue, FieldsValue, Row, Has}
use Rattle.rich_text.specs.Writable.{AllFields, AllInside, IsWord}
use Rattle.rich_text.specs.FirstVersion.{first_version}
use Rattle.rich_text.specs.Instructions.{instruction_words, instruction_heads}
use Rattle.rich_text.specs.Views.{instruction_layer, type_layer, pretype_layer, heap_layer, views}

-- what holds of all entries of a table
abbrev AllEntries : {X : Type 0} → (X → Type 0) → List (List ℕ × X) → Type 0
AllEntries P [] = ⊤
AllEntries P (e ∷ es) = P e.1 × AllEntries P es

entry : {X : Type 0} (P : X → Type 0) (es : List (List ℕ × X)) (w : List ℕ) (x : X) → AllEntries P es → Has es w x → P x
entry P [] w x a h = absurd h
entry P (e ∷ es) w x a (inl h) = subst P h.1 a.0
entry P (e ∷ es) w x a (inr h) = entry P es w x a.1 h

abbrev AllPlain : {X : Type 0} → (X → Type 0) → Option X → Type 0
AllPlain P None = ⊤
AllPlain P (Some x) = P x

plain_one : {X : Type 0} (P : X → Type 0) (o : Option X) (x : X) → AllPlain P o → o ≡ Some x → P x
plain_one P o x a e = subst (λ q. AllPlain P q) e a

by_instruction : (P : Instr-F Instr → Type 0) (x : Instr-F Instr) {i : Instr} → roll-Instr x ≡ i → P x → P (out-Instr i)
by_instruction P x e h = subst P (sym (out-roll-Instr x) ∙ ap out-Instr e) h

by_type : (P : Ty-F Heap Pre Ty FunType Slot → Type 0) (x : Ty-F Heap Pre Ty FunType Slot) {t : Ty} → roll-Ty x ≡ t → P x → P (out-Ty t)
by_type P x e h = subst P (sym (out-roll-Ty x) ∙ ap out-Ty e) h

by_pretype : (P : Pre-F Heap Pre Ty FunType Slot → Type 0) (x : Pre-F Heap Pre Ty FunType Slot) {t : Pre} → roll-Pre x ≡ t → P x → P (out-Pre t)
by_pretype P x e h = subst P (sym (out-roll-Pre x) ∙ ap out-Pre e) h

by_heap : (P : Heap-F Heap Pre Ty FunType Slot → Type 0) (x : Heap-F Heap Pre Ty FunType Slot) {t : Heap} → roll-Heap x ≡ t → P x → P (out-Heap t)
by_heap P x e h = subst P (sym (out-roll-Heap x) ∙ ap out-Heap e) h

by_number : (n : NumName) → IsWord (views instruction_form (Num n))
by_number n = by_instruction (λ y. IsWord (instruction_layer y)) (Instr-F.Num n) (rolls-Num n) tt

words_kept : AllEntries (λ i. IsWord (views instruction_form i)) instruction_words
words_kept = (
  by_instruction (λ y. IsWord (instruction_layer y)) Instr-F.Nop rolls-Nop tt,
  (
    by_instruction (λ y. IsWord (instruction_layer y)) Instr-F.Unreachable rolls-Unreachable tt,
    (
      by_instruction (λ y. IsWord (instruction_layer y)) Instr-F.Drop rolls-Drop tt,
      (
        by_instruction (λ y. IsWord (instruction_layer y)) Instr-F.Unit rolls-Unit tt,
        (
          by_instruction (λ y. IsWord (instruction_layer y)) Instr-F.Print rolls-Print tt,
          (
            by_instruction (λ y. IsWord (instruction_layer y)) Instr-F.Return rolls-Return tt,
            (
              by_instruction (λ y. IsWord (instruction_layer y)) Instr-F.CallIndirect rolls-CallIndirect tt,
              (
                by_instruction (λ y. IsWord (instruction_layer y)) Instr-F.Qualify rolls-Qualify tt,
                (
                  by_instruction (λ y. IsWord (instruction_layer y)) Instr-F.RecUnfold rolls-RecUnfold tt,
                  (
                    by_instruction (λ y. IsWord (instruction_layer y)) Instr-F.Ungroup rolls-Ungroup tt,
                    (
                      by_instruction (λ y. IsWord (instruction_layer y)) Instr-F.RefSplit rolls-RefSplit tt,
                      (
                        by_instruction (λ y. IsWord (instruction_layer y)) Instr-F.RefJoin rolls-RefJoin tt,
                        (
                          by_instruction (λ y. IsWord (instruction_layer y)) Instr-F.CapSplit rolls-CapSplit tt,
                          (
                            by_instruction (λ y. IsWord (instruction_layer y)) Instr-F.CapJoin rolls-CapJoin tt,
                            (
                              by_instruction (λ y. IsWord (instruction_layer y)) Instr-F.StructFree rolls-StructFree tt,
                              (
                                by_instruction (λ y. IsWord (instruction_layer y)) Instr-F.ArrayGet rolls-ArrayGet tt,
                                (
                                  by_instruction (λ y. IsWord (instruction_layer y)) Instr-F.ArraySet rolls-ArraySet tt,
                                  (
                                    by_instruction (λ y. IsWord (instruction_layer y)) Instr-F.ArrayLen rolls-ArrayLen tt,
                                    (
                                      by_instruction (λ y. IsWord (instruction_layer y)) Instr-F.ArrayFree rolls-ArrayFree tt,
                                      (
                                        by_number num.I32Eqz,
                                        (
                                          by_number num.I32Eq,
                                          (
                                            by_number num.I32Ne,
                                            (
                                              by_number num.I32LtS,
                                              (
                                                by_number num.I32LtU,
                                                (
                                                  by_number num.I32GtS,
                                                  (
                                                    by_number num.I32GtU,
                                                    (
                                                      by_number num.I32LeS,
                                                      (
                                                        by_number num.I32LeU,
                                                        (
                                                          by_number num.I32GeS,
                                                          (
                                                            by_number num.I32GeU,
                                                            (
                                                              by_number num.I64Eqz,
                                                              (
                                                                by_number num.I64Eq,
                                                                (
                                                                  by_number num.I64Ne,
                                                                  (
                                                                    by_number num.I64LtS,
                                                                    (
                                                                      by_number num.I64LtU,
                                                                      (
                                                                        by_number num.I64GtS,
                                                                        (
                                                                          by_number num.I64GtU,
                                                                          (
                                                                            by_number num.I64LeS,
                                                                            (
                                                                              by_number num.I64LeU,
                                                                              (
                                                                                by_number num.I64GeS,
                                                                                (
                                                                                  by_number num.I64GeU,
                                                                                  (
                                                                                    by_number num.I32Clz,
                                                                                    (
                                                                                      by_number num.I32Ctz,
                                                                                      (
                                                                                        by_number num.I32Popcnt,
                                                                                        (
                                                                                          by_number num.I32Add,
                                                                                          (
                                                                                            by_number num.I32Sub,
                                                                                            (
                                                                                              by_number num.I32Mul,
                                                                                              (
                                                                                                by_number num.I32DivS,
                                                                                                (
                                                                                                  by_number num.I32DivU,
                                                                                                  (
                                                                                                    by_number num.I32RemS,
                                                                                                    (
                                                                                                      by_number num.I32RemU,
                                                                                                      (
                                                                                                        by_number num.I32And,
                                                                                                        (
                                                                                                          by_number num.I32Or,
                                                                                                          (
                                                                                                            by_number num.I32Xor,
                                                                                                            (
                                                                                                              by_number num.I32Shl,
                                                                                                              (
                                                                                                                by_number num.I32ShrS,
                                                                                                                (
                                                                                                                  by_number num.I32ShrU,
                                                                                                                  (
                                                                                                                    by_number num.I32Rotl,
                                                                                                                    (
                                                                                                                      by_number num.I32Rotr,
                                                                                                                      (
                                                                                                                        by_number num.I64Clz,
                                                                                                                        (
                                                                                                                          by_number num.I64Ctz,
                                                                                                                          (
                                                                                                                            by_number num.I64Popcnt,
                                                                                                                            (
                                                                                                                              by_number num.I64Add,
                                                                                                                              (
                                                                                                                                by_number num.I64Sub,
                                                                                                                                (
                                                                                                                                  by_number num.I64Mul,
                                                                                                                                  (
                                                                                                                                    by_number num.I64DivS,
                                                                                                                                    (
                                                                                                                                      by_number num.I64DivU,
                                                                                                                                      (
                                                                                                                                        by_number num.I64RemS,
                                                                                                                                        (
                                                                                                                                          by_number num.I64RemU,
                                                                                                                                          (
                                                                                                                                            by_number num.I64And,
                                                                                                                                            (
                                                                                                                                              by_number num.I64Or,
                                                                                                                                              (
                                                                                                                                                by_number num.I64Xor,
                                                                                                                                                (
                                                                                                                                                  by_number num.I64Shl,
                                                                                                                                                  (
                                                                                                                                                    by_number num.I64ShrS,
                                                                                                                                                    (
                                                                                                                                                      by_number num.I64ShrU,
                                                                                                                                                      (
                                                                                                                                                        by_number num.I64Rotl,
                                                                                                                                                        (
                                                                                                                                                          by_number num.I64Rotr,
                                                                                                                                                          (
                                                                                                                                                            by_number num.I32WrapI64,
                                                                                                                                                            (
                                                                                                                                                              by_number num.I64ExtendI32S,
                                                                                                                                                              (
                                                                                                                                                                by_number num.I64ExtendI32U,
                                                                                                                                                                tt,
                                                                                                                                                              ),
                                                                                                                                                            ),
                                                                                                                                                          ),
                                                                                                                                                        ),
                                                                                                                                                      ),
                                                                                                                                                    ),
                                                                                                                                                  ),
                                                                                                                                                ),
                                                                                                                                              ),
                                                                                                                                            ),
                                                                                                                                          ),
                                                                                                                                        ),
                                                                                                                                      ),
                                                                                                                                    ),
                                                                                                                                  ),
                                                                                                                                ),
                                                                                                                              ),
                                                                                                                            ),
                                                                                                                          ),
                                                                                                                        ),
                                                                                                                      ),
                                                                                                                    ),
                                                                                                                  ),
                                                                                                                ),
                                                                                                              ),
                                                                                                            ),
                                                                                                          ),
                                                                                                        ),
                                                                                                      ),
                                                                                                    ),
                                                                                                  ),
                                                                                                ),
                                                                                              ),
                                                                                            ),
                                                                                          ),
                                                                                        ),
                                                                                      ),
                                                                                    ),
                                                                                  ),
                                                                                ),
                                                                              ),
                                                                            ),
                                                                          ),
                                                                        ),
                                                                      ),
                                                                    ),
                                                                  ),
                                                                ),
                                                              ),
                                                            ),
                                                          ),
                                                        ),
                                                      ),
                                                    ),
                                                  ),
                                                ),
                                              ),
                                            ),
                                          ),
                                        ),
                                      ),
                                    ),
                                  ),
                                ),
                              ),
                            ),
                          ),
                        ),
                      ),
                    ),
                  ),
                ),
              ),
            ),
          ),
        ),
      ),
    ),
  ),
)

-- a word of a form is written as a word
worded : (s : Form) → AllEntries (λ x. IsWord (views s x)) (first_version s).words
worded qualifier_form = (tt, (tt, tt))
worded memory_form = (tt, (tt, tt))
worded privilege_form = (tt, (tt, tt))
worded type_form = tt
worded types_form = tt
worded pretype_form = (by_pretype (λ y. IsWord (pretype_layer y)) Pre-F.Unit pre_unit_rolls tt, (by_pretype (λ y. IsWord (pretype_layer y)) Pre-F.I32 rolls-I32 tt, (by_pretype (λ y. IsWord (pretype_layer y)) Pre-F.I64 rolls-I64 tt, tt)))
worded heap_form = tt
worded slot_form = tt
worded function_type_form = tt
worded binder_form = tt
worded binders_form = tt
worded local_form = tt
worded local_types_form = tt
worded locals_form = tt
worded instruction_form = words_kept
worded argument_form = tt
worded arm_form = tt
worded then_form = tt
worded else_form = tt
worded function_form = tt
worded export_form = tt
worded import_form = tt
worded global_form = tt
worded mutability_form = (tt, (tt, tt))
worded version_form = (tt, tt)
worded module_form = tt

pub word_kept : (s : Form) (w : List ℕ) (x : Meaning s) → Has (first_version s).words w x → IsWord (views s x)
word_kept s w x h = entry (λ x. IsWord (views s x)) (first_version s).words w x (worded s) h

-- ---- rows, whatever is said of each part

module _ (P : (k : Part) → PartValue k → Type 0) where
  -- a value of a row is written with the row's fields
  abbrev pub Kept : (s : Form) → Row (Meaning s) → Type 0
  Kept s row = (v : FieldsValue row.fields) → AllFields P row.fields v → AllInside P (views s (row.make v))

  heads_kept : AllEntries (Kept instruction_form) instruction_heads
  heads_kept = (
    (λ v h. by_instruction (λ y. AllInside P (instruction_layer y)) (Instr-F.I32Const v.0) (rolls-I32Const v.0) h),
    (
      (λ v h. by_instruction (λ y. AllInside P (instruction_layer y)) (Instr-F.I64Const v.0) (rolls-I64Const v.0) h),
      (
        (λ v h. by_instruction (λ y. AllInside P (instruction_layer y)) (Instr-F.Block (record { params = v.0; results = v.1.0; locals = v.1.1.0 }) v.1.1.1) (rolls-Block (record { params = v.0; results = v.1.0; locals = v.1.1.0 }) v.1.1.1) h),
        (
          (λ v h. by_instruction (λ y. AllInside P (instruction_layer y)) (Instr-F.Loop (record { params = v.0; results = v.1.0; locals = v.1.1.0 }) v.1.1.1) (rolls-Loop (record { params = v.0; results = v.1.0; locals = v.1.1.0 }) v.1.1.1) h),
          (
            (λ v h. by_instruction (λ y. AllInside P (instruction_layer y)) (Instr-F.If (record { params = v.0; results = v.1.0; locals = v.1.1.0 }) v.1.1.1.0 v.1.1.1.1.0) (rolls-If (record { params = v.0; results = v.1.0; locals = v.1.1.0 }) v.1.1.1.0 v.1.1.1.1.0) h),
            (
              (λ v h. by_instruction (λ y. AllInside P (instruction_layer y)) (Instr-F.Br v.0) (rolls-Br v.0) h),
              (
                (λ v h. by_instruction (λ y. AllInside P (instruction_layer y)) (Instr-F.BrIf v.0) (rolls-BrIf v.0) h),
                (
                  (λ v h. by_instruction (λ y. AllInside P (instruction_layer y)) (Instr-F.LocalGet v.0) (rolls-LocalGet v.0) h),
                  (
                    (λ v h. by_instruction (λ y. AllInside P (instruction_layer y)) (Instr-F.LocalTake v.0) (rolls-LocalTake v.0) h),
                    (
                      (λ v h. by_instruction (λ y. AllInside P (instruction_layer y)) (Instr-F.LocalSet v.0) (rolls-LocalSet v.0) h),
                      (
                        (λ v h. by_instruction (λ y. AllInside P (instruction_layer y)) (Instr-F.GlobalGet v.0) (rolls-GlobalGet v.0) h),
                        (
                          (λ v h. by_instruction (λ y. AllInside P (instruction_layer y)) (Instr-F.GlobalSet v.0) (rolls-GlobalSet v.0) h),
                          (
                            (λ v h. by_instruction (λ y. AllInside P (instruction_layer y)) (Instr-F.Coderef v.0) (rolls-Coderef v.0) h),
                            (
                              (λ v h. by_instruction (λ y. AllInside P (instruction_layer y)) (Instr-F.Inst v) (rolls-Inst v) h),
                              (
                                (λ v h. by_instruction (λ y. AllInside P (instruction_layer y)) (Instr-F.Call v.0 v.1) (rolls-Call v.0 v.1) h),
                                (
                                  (λ v h. by_instruction (λ y. AllInside P (instruction_layer y)) (Instr-F.RecFold v.0) (rolls-RecFold v.0) h),
                                  (
                                    (λ v h. by_instruction (λ y. AllInside P (instruction_layer y)) (Instr-F.Group v.0 v.1.0) (rolls-Group v.0 v.1.0) h),
                                    (
                                      (λ v h. by_instruction (λ y. AllInside P (instruction_layer y)) (Instr-F.MemPack v.0 v.1.0) (rolls-MemPack v.0 v.1.0) h),
                                      (
                                        (λ v h. by_instruction (λ y. AllInside P (instruction_layer y)) (Instr-F.MemUnpack (record { params = v.0; results = v.1.0; locals = v.1.1.0 }) v.1.1.1) (rolls-MemUnpack (record { params = v.0; results = v.1.0; locals = v.1.1.0 }) v.1.1.1) h),
                                        (
                                          (λ v h. by_instruction (λ y. AllInside P (instruction_layer y)) (Instr-F.StructMalloc v.0 v.1) (rolls-StructMalloc v.0 v.1) h),
                                          (
                                            (λ v h. by_instruction (λ y. AllInside P (instruction_layer y)) (Instr-F.StructGet v.0) (rolls-StructGet v.0) h),
                                            (
                                              (λ v h. by_instruction (λ y. AllInside P (instruction_layer y)) (Instr-F.StructSet v.0) (rolls-StructSet v.0) h),
                                              (
                                                (λ v h. by_instruction (λ y. AllInside P (instruction_layer y)) (Instr-F.StructSwap v.0) (rolls-StructSwap v.0) h),
                                                (
                                                  (λ v h. by_instruction (λ y. AllInside P (instruction_layer y)) (Instr-F.VariantMalloc v.0 v.1.0 v.1.1) (rolls-VariantMalloc v.0 v.1.0 v.1.1) h),
                                                  (
                                                    (λ v h. by_instruction (λ y. AllInside P (instruction_layer y)) (Instr-F.VariantCase (record { params = v.0; results = v.1.0; locals = v.1.1.0 }) v.1.1.1) (rolls-VariantCase (record { params = v.0; results = v.1.0; locals = v.1.1.0 }) v.1.1.1) h),
                                                    (
                                                      (λ v h. by_instruction (λ y. AllInside P (instruction_layer y)) (Instr-F.ArrayMalloc v.0) (rolls-ArrayMalloc v.0) h),
                                                      (
                                                        (λ v h. by_instruction (λ y. AllInside P (instruction_layer y)) (Instr-F.ExistPack v.0 v.1.0 v.1.1.0 v.1.1.1.0 v.1.1.1.1.0) (rolls-ExistPack v.0 v.1.0 v.1.1.0 v.1.1.1.0 v.1.1.1.1.0) h),
                                                        (
                                                          (λ v h. by_instruction (λ y. AllInside P (instruction_layer y)) (Instr-F.ExistUnpack (record { params = v.0; results = v.1.0; locals = v.1.1.0 }) v.1.1.1) (rolls-ExistUnpack (record { params = v.0; results = v.1.0; locals = v.1.1.0 }) v.1.1.1) h),
                                                          tt,
                                                        ),
                                                      ),
                                                    ),
                                                  ),
                                                ),
                                              ),
                                            ),
                                          ),
                                        ),
                                      ),
                                    ),
                                  ),
                                ),
                              ),
                            ),
                          ),
                        ),
                      ),
                    ),
                  ),
                ),
              ),
            ),
          ),
        ),
      ),
    ),
  )

  -- every row of a form
  record AreKept (s : Form) : Type 0 where
    heads : AllEntries (Kept s) (first_version s).heads
    plain : AllPlain (Kept s) (first_version s).plain

  kept : (s : Form) → AreKept s
  kept qualifier_form = record { heads = tt; plain = tt }
  kept memory_form = record { heads = tt; plain = tt }
  kept privilege_form = record { heads = tt; plain = tt }
  kept type_form = record { heads = ((λ v h. by_type (λ y. AllInside P (type_layer y)) (Ty-F.Of Unr v.0) (rolls-Of Unr v.0) h), ((λ v h. by_type (λ y. AllInside P (type_layer y)) (Ty-F.Of Lin v.0) (rolls-Of Lin v.0) h), ((λ v h. by_type (λ y. AllInside P (type_layer y)) (Ty-F.Var v.0) (rolls-Var v.0) h), ((λ v h. by_type (λ y. AllInside P (type_layer y)) (Ty-F.Rec v.0 v.1.0 v.1.1.0) (rolls-Rec v.0 v.1.0 v.1.1.0) h), tt)))); plain = tt }
  kept types_form = record { heads = tt; plain = (λ v h. h) }
  kept pretype_form = record { heads = ((λ v h. by_pretype (λ y. AllInside P (pretype_layer y)) (Pre-F.Ptr v.0) (rolls-Ptr v.0) h), ((λ v h. by_pretype (λ y. AllInside P (pretype_layer y)) (Pre-F.Own v.0) (rolls-Own v.0) h), ((λ v h. by_pretype (λ y. AllInside P (pretype_layer y)) (Pre-F.Cap v.0 v.1.0 v.1.1.0) (rolls-Cap v.0 v.1.0 v.1.1.0) h), ((λ v h. by_pretype (λ y. AllInside P (pretype_layer y)) (Pre-F.Tuple v) (rolls-Tuple v) h), ((λ v h. by_pretype (λ y. AllInside P (pretype_layer y)) (Pre-F.Ref v.0 v.1.0 v.1.1.0) (rolls-Ref v.0 v.1.0 v.1.1.0) h), ((λ v h. by_pretype (λ y. AllInside P (pretype_layer y)) (Pre-F.Hidden v.0 v.1.0) (rolls-Hidden v.0 v.1.0) h), ((λ v h. by_pretype (λ y. AllInside P (pretype_layer y)) (Pre-F.Code v.0) (rolls-Code v.0) h), tt))))))); plain = tt }
  kept heap_form = record { heads = ((λ v h. by_heap (λ y. AllInside P (heap_layer y)) (Heap-F.Struct v) (rolls-Struct v) h), ((λ v h. by_heap (λ y. AllInside P (heap_layer y)) (Heap-F.Variant v) (rolls-Variant v) h), ((λ v h. by_heap (λ y. AllInside P (heap_layer y)) (Heap-F.Array v.0) (rolls-Array v.0) h), ((λ v h. by_heap (λ y. AllInside P (heap_layer y)) (Heap-F.Exist v.0 v.1.0 v.1.1.0) (rolls-Exist v.0 v.1.0 v.1.1.0) h), tt)))); plain = tt }
  kept slot_form = record { heads = tt; plain = (λ v h. h) }
  kept function_type_form = record { heads = ((λ v h. h), tt); plain = tt }
  kept binder_form = record { heads = ((λ v h. h), ((λ v h. h), tt)); plain = tt }
  kept binders_form = record { heads = tt; plain = (λ v h. h) }
  kept local_form = record { heads = tt; plain = (λ v h. h) }
  kept local_types_form = record { heads = tt; plain = (λ v h. h) }
  kept locals_form = record { heads = ((λ v h. h), tt); plain = tt }
  kept instruction_form = record { heads = heads_kept; plain = tt }
  kept argument_form = record { heads = ((λ v h. h), ((λ v h. h), tt)); plain = tt }
  kept arm_form = record { heads = tt; plain = (λ v h. h) }
  kept then_form = record { heads = ((λ v h. h), tt); plain = tt }
  kept else_form = record { heads = ((λ v h. h), tt); plain = tt }
  kept function_form = record { heads = ((λ v h. h), tt); plain = tt }
  kept export_form = record { heads = ((λ v h. h), tt); plain = tt }
  kept import_form = record { heads = ((λ v h. h), tt); plain = tt }
  kept global_form = record { heads = ((λ v h. h), tt); plain = tt }
  kept mutability_form = record { heads = tt; plain = tt }
  kept version_form = record { heads = tt; plain = tt }
  kept module_form = record { heads = ((λ v h. h), tt); plain = tt }

  pub head_kept : (s : Form) (w : List ℕ) (row : Row (Meaning s)) → Has (first_version s).heads w row → Kept s row
  head_kept s w row h = entry (Kept s) (first_version s).heads w row (kept s).heads h

  pub plain_kept : (s : Form) (row : Row (Meaning s)) → (first_version s).plain ≡ Some row → Kept s row
  plain_kept s row h = plain_one (Kept s) (first_version s).plain row (kept s).plain h
