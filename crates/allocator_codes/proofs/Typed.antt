-- The codes are typed, instruction by instruction.
use Rattle.std.proofs.Common.{[], ◌∷◌, true, refl}
use Rattle.std.specs.Prelude.{Some, None}
use Rattle.wasm_ast.specs.declared.types.ValTy.TheVariants.{I32, I64}
use Rattle.wasm_typing.specs.declared.context.Context.{Context}
use Rattle.wasm_typing.specs.Contexts.{body_context}
use Rattle.wasm_typing.specs.Typing.{Labels, AreTyped, none}
use Rattle.allocator_codes.specs.Codes.{free_lin_code, spent, to_next, take_whole, take_front, search, alloc_lin_code, alloc_unr_code}
use Rattle.allocator_codes.specs.Laws.{alloc_type, free_type, HasHeap, IsTypedCode, CodesAreTyped}
use Rattle.allocator_codes.proofs.Instructions.{get, set, global_get, global_set, const64, const32, wrap, extend, size, load, store, add, sub, mul, shift, less, eqz, unreachable, branch, if_one, if_two, loop_none}

module _ (C : Context) (h : HasHeap C) where
  free_lin : IsTypedCode C free_type free_lin_code
  free_lin =
      let c = body_context C free_type free_lin_code in
      get c I64 refl (wrap c (const32 c (load c h.memory (store c h.memory
      (const32 c (get c I64 refl (store c h.memory (none refl refl))))))))

  abbrev b : Context
  b = body_context C alloc_type alloc_lin_code

  spent_typed : (ls : Labels) → AreTyped b ls spent [] []
  spent_typed ls = const32 b (global_set b I32 h.trap_code (unreachable b {between = []} (none refl refl)))

  next_typed : (ls : Labels) → AreTyped b (None ∷ None ∷ ls) to_next [] []
  next_typed ls = get b I64 refl (set b I64 refl (branch b {between = []} refl (none refl refl)))

  whole_typed : (ls : Labels) → AreTyped b ls take_whole [] []
  whole_typed ls = get b I64 refl (wrap b (get b I64 refl (wrap b (load b h.memory (store b h.memory (none refl refl))))))

  front_typed : (ls : Labels) → AreTyped b ls take_front [] []
  front_typed ls =
      get b I64 refl (get b I64 refl (const64 b (mul b (add b (const64 b (add b (set b I64 refl
      (get b I64 refl (const64 b (sub b (wrap b (get b I64 refl (get b I64 refl (sub b (const64 b (sub b (store b h.memory
      (get b I64 refl (wrap b (get b I64 refl (wrap b (load b h.memory (store b h.memory
      (get b I64 refl (const64 b (sub b (wrap b (get b I64 refl (store b h.memory
      (get b I64 refl (wrap b (get b I64 refl (store b h.memory
      (none refl refl))))))))))))))))))))))))))))))))))

  search_typed : (ls : Labels) → AreTyped b (None ∷ ls) search [] []
  search_typed ls =
      get b I64 refl (wrap b (load b h.memory (set b I64 refl
      (get b I64 refl (eqz b (if_one b (spent_typed (None ∷ None ∷ ls))
      (get b I64 refl (const64 b (sub b (wrap b (load b h.memory (set b I64 refl
      (get b I64 refl (get b I64 refl (less b (if_one b (next_typed ls)
      (get b I64 refl (get b I64 refl (sub b (const64 b (less b (if_two b (whole_typed (None ∷ None ∷ ls)) (front_typed (None ∷ None ∷ ls))
      (none refl refl)))))))))))))))))))))))

  alloc_lin : IsTypedCode C alloc_type alloc_lin_code
  alloc_lin =
      get b I64 refl (eqz b (if_one b (const64 b (set b I64 refl (none refl refl)))
      (const64 b (set b I64 refl (loop_none b (search_typed (Some I64 ∷ []))
      (get b I64 refl (none refl refl)))))))

  alloc_unr : IsTypedCode C alloc_type alloc_unr_code
  alloc_unr =
      let c = body_context C alloc_type alloc_unr_code in
      get c I64 refl (eqz c (if_one c (const64 c (set c I64 refl (none refl refl)))
      (size c h.memory (extend c (const64 c (mul c (global_get c (record { ty = I64; mutable = true }) h.next (sub c (const64 c (shift c (get c I64 refl (less c
      (if_one c (const32 c (global_set c I32 h.trap_code (unreachable c {between = []} (none refl refl))))
      (global_get c (record { ty = I64; mutable = true }) h.next
      (global_get c (record { ty = I64; mutable = true }) h.next (get c I64 refl (const64 c (mul c (add c (global_set c I64 h.next
      (none refl refl)))))))))))))))))))))

pub codes_are_typed : (C : Context) → HasHeap C → CodesAreTyped C
codes_are_typed C h = record { alloc_lin = alloc_lin C h; free_lin = free_lin C h; alloc_unr = alloc_unr C h }
