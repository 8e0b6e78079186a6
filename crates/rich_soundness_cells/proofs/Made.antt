-- Rows that make a cell.
use Rattle.std.proofs.Common.{◌≡◌, ℕ, ◌+◌, List, [], ◌∷◌, None, refl, sym, ap, ◌∙◌, subst, arith}
use Rattle.rw_types.specs.declared.instrs.Instr.{Instr}
use Rattle.rw_types.specs.declared.types.Heap.{Heap}
use Rattle.rw_types.specs.declared.types.Mem.{Mem}
use Rattle.rw_types.specs.declared.types.Mem.TheVariants.{L, U}
use Rattle.rw_types.specs.declared.types.Pre as pre
use Rattle.rw_types.specs.declared.types.Priv.TheVariants.{Rw}
use Rattle.rw_types.specs.declared.types.Qual.{Qual}
use Rattle.rw_types.specs.declared.types.Qual.TheVariants.{Lin}
use Rattle.rw_types.specs.declared.types.Ty.{Ty, Of}
use Rattle.machine_steps.specs.Steps.{Turn}
use Rattle.rich_types.specs.Scopes.{no_scope}
use Rattle.rich_types.specs.Sizes.{qual_under}
use Rattle.rich_types.specs.Walks.{outside, walk_heap}
use Rattle.rich_types.specs.Instances.{Substitution, substituting}
use Rattle.rich_types.proofs.Shapes.{walk-Hidden}
use Rattle.rich_rules.specs.Points.{Frame, Point, Gives}
use Rattle.rich_rules.specs.Structs.{qual_of_new, new_cell}
use Rattle.rich_rules.specs.Table.{row}
use Rattle.rich_reduction.specs.Configurations.{Val, Ref, Pack, Location, Cell, Stores, Here, Config, Event, Made, Touched}
use Rattle.rich_reduction.specs.Cells.{new_location, with_new, makes}
use Rattle.rich_rights.specs.Rights.{Right, Reading, rights_to, count_all, count_content}
use Rattle.rich_rights_laws.proofs.Sums.{stores}
use Rattle.rich_soundness_values.specs.Heaps.{Heaps, name_of, Stands, with_place, at, all_at}
use Rattle.rich_soundness_values.specs.Values.{HasType, HaveTypes, more_types, is_ref, is_pack}
use Rattle.rich_soundness_values.specs.Cells.{Holds}
use Rattle.rich_soundness_values.proofs.Framed.{framed_all}
use Rattle.rich_soundness_binders.specs.Laws.{onto}
use Rattle.rich_soundness_binders.proofs.Bodies.{placed, place_body, place_body_at}
use Rattle.rich_soundness_cells.proofs.Live.{grows}
use Rattle.rich_soundness_cells.proofs.Stores.{made}
use Rattle.rich_soundness_references.proofs.References.{writes_has}
use Rattle.rich_soundness_frames.proofs.Acts.{Told, Acts, changes}

new_lin : (m : Mem) → m ≡ L → qual_of_new m ≡ Lin
new_lin L e = refl
new_lin U e = cc

new_mem : (m : Mem) (s : Stores) → (new_location m s).mem ≡ m
new_mem L s = refl
new_mem U s = refl

-- a new reference, packed
new_typed : {hs : Heaps} (g : Substitution) (l : Location) (h h' : Heap) → Stands hs l h' → walk_heap (substituting (onto (placed l) g)) outside h ≡ h' → HasType hs (Pack (Ref l Rw)) (at g (new_cell l.mem h))
new_typed {hs = hs} g l h h' stands e =
    let q : Qual = qual_of_new l.mem in
    let body : Ty = Of q (pre.Ref Rw 0 h) in
    let inside : Ty = place_body g body in
    let b : with_place l inside ≡ at (onto (placed l) g) body = place_body_at g l body in
    let n : name_of l + 0 ≡ name_of l = omega arith in
    let t : at (onto (placed l) g) body ≡ Of q (pre.Ref Rw (name_of l) h') =
    ap (λ (k : ℕ). Of q (pre.Ref Rw k (walk_heap (substituting (onto (placed l) g)) outside h))) n ∙ ap (λ (x : Heap). Of q (pre.Ref Rw (name_of l) x)) e in
    is_pack q l inside (ap (Of q) (walk-Hidden (substituting g) outside l.mem body)) (λ u. ap (qual_under no_scope) (b ∙ t) ∙ u)
    (subst (λ (x : Ty). HasType hs (Ref l Rw) x) (sym (b ∙ t)) (is_ref q h' refl (new_lin l.mem) stands))

-- a cell is made of operands, and a reference to it stands on those beneath
pub makes_acts : {f : Frame} {hs : Heaps} {q : Point} {g : Substitution} {i : Instr} {vs : List Val} {here : Here} {c : Config} {turn : Turn Event Config} → Told hs f q g i c vs →
    (m : Mem) (h h' : Heap) (cell : Cell) (beneath : List Val) (ts : List Ty) → row f q i ≡ Gives (new_cell m h ∷ ts) None → turn ≡ makes m cell beneath here c →
    ((l : Location) → walk_heap (substituting (onto (placed l) g)) outside h ≡ h') → Holds hs m h' cell.content → HaveTypes hs beneath (all_at g ts) →
    ((r : Right) (n : ℕ) → count_content (rights_to r n) cell.content + count_all (rights_to r n) beneath ≡ count_all (rights_to r n) vs) → Acts f hs q g i vs here c turn
makes_acts {hs = hs} {g = g} {c = c} told m h h' cell beneath ts e t same holds typed rights =
    let l = new_location m c.stores in
    let a = made hs c.stores m h' cell told.stored holds (λ n z. (omega (arith, z, rights Reading n, told.few Reading n), omega (arith, z, told.few Reading n))) in
    changes _ (Made l cell.words ∷ Touched l ∷ []) a.0.heaps a.0.number (Pack (Ref l Rw) ∷ beneath) (with_new m cell c.stores) e t a.0.keeps (omega (arith, a.0.bound))
    (more_types (subst (λ (k : Mem). HasType a.0.heaps (Pack (Ref l Rw)) (at g (new_cell k h))) (new_mem m c.stores) (new_typed g l h h' a.1 (same l)))
    (framed_all a.0.number a.0.keeps typed (omega (arith, a.0.bound, rights Reading a.0.number, told.few Reading a.0.number))))
    a.0.stored
    (λ r n. omega (arith, rights r n, writes_has r n l, grows c.stores m cell n, (stores (rights_to r n)).new m cell c.stores))
