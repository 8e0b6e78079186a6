-- Imports and exports are read exactly; and so are globals and segments, where constant expressions are.
use Rattle.std.proofs.Common.{◌≡◌, ℕ, Bool, List, refl, sym, subst}
use Rattle.wasm_ast.specs.declared.types.ValTy.{ValTy}
use Rattle.wasm_ast.specs.declared.types.Limits.{Limits}
use Rattle.wasm_ast.specs.declared.modules.Import.{Import}
use Rattle.wasm_ast.specs.declared.modules.ImportKind.{ImportKind}
use Rattle.wasm_ast.specs.declared.modules.ImportKind.TheVariants as imports
use Rattle.wasm_ast.specs.declared.modules.Export.{Export}
use Rattle.wasm_ast.specs.declared.modules.ExportKind.{ExportKind}
use Rattle.wasm_ast.specs.declared.modules.ExportKind.TheVariants as kinds
use Rattle.wasm_ast.specs.declared.modules.WGlobal.{WGlobal}
use Rattle.wasm_ast.specs.declared.modules.ElemSeg.{ElemSeg}
use Rattle.wasm_ast.specs.declared.modules.DataSeg.{DataSeg}
use Rattle.wasm_grammar.specs.Tags.{mutability, export_kind}
use Rattle.wasm_grammar.specs.Profile.{page_limit, entry_limit, LimitsFit, ImportKindFits}
use Rattle.wasm_grammar.specs.GrammarValues.{Joined, ◌followed_by◌, IsByte, IsUnsigned, IsName}
use Rattle.wasm_grammar.specs.GrammarTypes.{IsValueType, IsLimits, IsTableType, IsGlobalType}
use Rattle.wasm_grammar.specs.GrammarModules.{IsImportKind}
use Rattle.wasm_reading.specs.ReadModules.{import_kind_at, import_at}
use Rattle.wasm_reading_values.specs.Exactness.{Exact}
use Rattle.wasm_reading_values.specs.EntriesRead.{ConstantsReadExactly, ImportsReadExactly, ExportsReadExactly, GlobalsReadExactly, ElementsReadExactly, SegmentsReadExactly}
use Rattle.wasm_reading_values.proofs.Compose.{from_left, from_right, alike, followed, made, field, last_field, fields}
use Rattle.wasm_reading_values.proofs.ExactNumbers.{u32}
use Rattle.wasm_reading_values.proofs.ExactLists.{unsigned_fits, fitting_u32, indices, fitting_byte_vector, name, name_fits}
use Rattle.wasm_reading_values.proofs.ExactTables.{value_type_byte, flag_byte, external_kind_byte}
use Rattle.wasm_reading_values.proofs.ExactTypes.{memory_type, table_type}

-- the kind of what is imported
abbrev kind_of : ImportKind → ExportKind
kind_of (imports.Func n) = kinds.Func
kind_of (imports.Table l) = kinds.Table
kind_of (imports.Memory l) = kinds.Memory
kind_of (imports.Global t mutable) = kinds.Global

-- what stands behind the byte of that kind
abbrev IsImported : ImportKind → List ℕ → Type 0
IsImported (imports.Func n) = IsUnsigned n
IsImported (imports.Table l) = IsTableType l
IsImported (imports.Memory l) = IsLimits l
IsImported (imports.Global t mutable) = IsGlobalType t mutable

-- of what is imported, of one kind, the limits and the bytes
abbrev IsOfKind : ExportKind → ImportKind → List ℕ → Type 0
IsOfKind kind what bytes = (kind_of what ≡ kind) × (ImportKindFits what × IsImported what bytes)

as_function : (what : ImportKind) (bytes : List ℕ) → IsOfKind kinds.Func what bytes → (n : ℕ) × (what ≡ imports.Func n) × IsUnsigned n bytes
as_function (imports.Func n) bytes p = (n, refl, p.1.1)
as_function _ bytes p = absurd (cc)

as_table : (what : ImportKind) (bytes : List ℕ) → IsOfKind kinds.Table what bytes → (l : Limits) × (what ≡ imports.Table l) × (LimitsFit entry_limit l × IsTableType l bytes)
as_table (imports.Table l) bytes p = (l, refl, p.1)
as_table _ bytes p = absurd (cc)

as_memory : (what : ImportKind) (bytes : List ℕ) → IsOfKind kinds.Memory what bytes → (l : Limits) × (what ≡ imports.Memory l) × (LimitsFit page_limit l × IsLimits l bytes)
as_memory (imports.Memory l) bytes p = (l, refl, p.1)
as_memory _ bytes p = absurd (cc)

-- an imported global by its parts
abbrev IsGlobalByParts : ImportKind → List ℕ → Type 0
IsGlobalByParts what bytes = (t : ValTy) × Joined (IsValueType t) (λ back. (mutable : Bool) × (what ≡ imports.Global t mutable) × IsByte (mutability mutable) back) bytes

as_global : (what : ImportKind) (bytes : List ℕ) → IsOfKind kinds.Global what bytes → IsGlobalByParts what bytes
as_global (imports.Global t mutable) bytes p =
    let q = p.1.1 in
    (t, record { front = q.front; back = q.back; first = q.first; second = (mutable, refl, q.second); whole = q.whole })
as_global _ bytes p = absurd (cc)

from_global : (what : ImportKind) (bytes : List ℕ) → IsGlobalByParts what bytes → IsOfKind kinds.Global what bytes
from_global what bytes p =
    let q = p.1 in
    let made : IsOfKind kinds.Global (imports.Global p.0 q.second.0) bytes = (refl, (tt, record { front = q.front; back = q.back; first = q.first; second = q.second.2; whole = q.whole })) in
    subst (λ k. IsOfKind kinds.Global k bytes) (sym q.second.1) made

-- what is imported, behind the byte of its kind
import_content : (kind : ExportKind) → Exact (import_kind_at kind) (IsOfKind kind)
import_content kinds.Func =
    alike (made (λ n. imports.Func n) u32)
    (λ what bytes p. subst (λ k. IsOfKind kinds.Func k bytes) (sym p.1) (refl, (unsigned_fits p.0 bytes p.2, p.2)))
    as_function
import_content kinds.Table =
    alike (made (λ l. imports.Table l) table_type)
    (λ what bytes p. subst (λ k. IsOfKind kinds.Table k bytes) (sym p.1) (refl, p.2))
    as_table
import_content kinds.Memory =
    alike (made (λ l. imports.Memory l) memory_type)
    (λ what bytes p. subst (λ k. IsOfKind kinds.Memory k bytes) (sym p.1) (refl, p.2))
    as_memory
import_content kinds.Global =
    alike (followed _ _ value_type_byte (λ t. made (λ mutable. imports.Global t mutable) flag_byte))
    from_global
    as_global

join_kind : (what : ImportKind) (bytes : List ℕ) → (IsByte (export_kind (kind_of what)) followed_by IsImported what) bytes → IsImportKind what bytes
join_kind (imports.Func n) bytes p = p
join_kind (imports.Table l) bytes p = p
join_kind (imports.Memory l) bytes p = p
join_kind (imports.Global t mutable) bytes p = p

part_kind : (what : ImportKind) (bytes : List ℕ) → IsImportKind what bytes → (IsByte (export_kind (kind_of what)) followed_by IsImported what) bytes
part_kind (imports.Func n) bytes p = p
part_kind (imports.Table l) bytes p = p
part_kind (imports.Memory l) bytes p = p
part_kind (imports.Global t mutable) bytes p = p

-- what is imported, with its limits
abbrev IsKindWithLimits : ImportKind → List ℕ → Type 0
IsKindWithLimits what = IsByte (export_kind (kind_of what)) followed_by (λ bytes. ImportKindFits what × IsImported what bytes)

import_by_parts : Exact import_at (λ i bytes. (IsName i.module followed_by IsName i.name followed_by IsKindWithLimits i.what) bytes)
import_by_parts =
    fields (field (λ (i : Import). i.module) _ (λ i. Unit {0}) _ name (λ m.
    field (λ (i : Import). i.name) _ (λ i. Unit {0} × (i.module ≡ m)) _ name (λ n.
    field (λ (i : Import). kind_of i.what) _ (λ i. (Unit {0} × (i.module ≡ m)) × (i.name ≡ n)) _ external_kind_byte (λ kind.
    alike (last_field (λ (i : Import). i.what) (λ what. record { «module» = m; name = n; what = what }) (λ i. (i.module ≡ m) × (i.name ≡ n)) (import_content kind) (λ what. ((refl, refl), refl)) (λ i h. λ k. record { «module» = h.0 k; name = h.1 k; what = i.what }))
    (λ i bytes p. ((((tt, p.0.0), p.0.1), p.1.0), p.1.1))
    (λ i bytes p. ((p.0.0.0.1, p.0.0.1), (p.0.1, p.1)))))))

-- an import
pub import_entry : ImportsReadExactly
import_entry =
    alike import_by_parts
    (λ i bytes p.
    let q = p.second in
    let r = q.second in
    let kind = join_kind i.what q.back (record { front = r.front; back = r.back; first = r.first; second = r.second.1; whole = r.whole }) in (
      (name_fits i.module p.front p.first, name_fits i.name q.front q.first, r.second.0),
      record { front = p.front; back = p.back; first = p.first; second = record { front = q.front; back = q.back; first = q.first; second = kind; whole = q.whole }; whole = p.whole },
    ))
    (λ i bytes p.
    let q = p.1.second in
    let r = part_kind i.what q.back q.second in
    let kind : IsKindWithLimits i.what q.back = record { front = r.front; back = r.back; first = r.first; second = (p.0.2, r.second); whole = r.whole } in
    record { front = p.1.front; back = p.1.back; first = p.1.first; second = record { front = q.front; back = q.back; first = q.first; second = kind; whole = q.whole }; whole = p.1.whole })

-- an export
pub export_entry : ExportsReadExactly
export_entry =
    alike (fields (field (λ (e : Export). e.name) _ (λ e. Unit {0}) _ name (λ n.
    field (λ (e : Export). e.kind) _ (λ e. Unit {0} × (e.name ≡ n)) _ external_kind_byte (λ kind.
    last_field (λ (e : Export). e.index) (λ index. record { name = n; kind = kind; index = index }) (λ e. (Unit {0} × (e.name ≡ n)) × (e.kind ≡ kind)) u32 (λ index. (((tt, refl), refl), refl))
    (λ e h. λ i. record { name = h.0.1 i; kind = h.1 i; index = e.index })))))
    (λ e bytes p. ((name_fits e.name p.front p.first, unsigned_fits e.index p.second.back p.second.second), p))
    (λ e bytes p. p.1)

-- three productions with something that holds of each value, and the three facts apart
apart_three : {F G H : Type 0} {P Q R : List ℕ → Type 0} {bytes : List ℕ} → Joined (λ front. F × P front) (Joined (λ front. G × Q front) (λ back. H × R back)) bytes → (F × G × H) × Joined P (Joined Q R) bytes
apart_three p =
    let q = p.second in
    ((p.first.0, q.first.0, q.second.0), record { front = p.front; back = p.back; first = p.first.1; second = record { front = q.front; back = q.back; first = q.first.1; second = q.second.1; whole = q.whole }; whole = p.whole })

together_three : {F G H : Type 0} {P Q R : List ℕ → Type 0} {bytes : List ℕ} → F → G → H → Joined P (Joined Q R) bytes → Joined (λ front. F × P front) (Joined (λ front. G × Q front) (λ back. H × R back)) bytes
together_three f g h p =
    let q = p.second in
    record { front = p.front; back = p.back; first = (f, p.first); second = record { front = q.front; back = q.back; first = (g, q.first); second = (h, q.second); whole = q.whole }; whole = p.whole }

-- a global
pub global_entry : ConstantsReadExactly → GlobalsReadExactly
global_entry constant =
    alike (fields (field (λ (g : WGlobal). g.ty) _ (λ g. Unit {0}) _ value_type_byte (λ t.
    field (λ (g : WGlobal). g.mutable) _ (λ g. Unit {0} × (g.ty ≡ t)) _ flag_byte (λ mutable.
    last_field (λ (g : WGlobal). g.init) (λ init. record { ty = t; mutable = mutable; init = init }) (λ g. (Unit {0} × (g.ty ≡ t)) × (g.mutable ≡ mutable)) constant (λ init. (((tt, refl), refl), refl))
    (λ g h. λ i. record { ty = h.0.1 i; mutable = h.1 i; init = g.init })))))
    (λ g bytes p.
    let q = p.second in
    (q.second.0, from_right bytes (record { front = p.front; back = p.back; first = p.first; second = record { front = q.front; back = q.back; first = q.first; second = q.second.1; whole = q.whole }; whole = p.whole })))
    (λ g bytes p.
    let q = from_left bytes p.1 in
    let r = q.second in
    record { front = q.front; back = q.back; first = q.first; second = record { front = r.front; back = r.back; first = r.first; second = (p.0, r.second); whole = r.whole }; whole = q.whole })

-- an element segment
pub element_entry : ConstantsReadExactly → ElementsReadExactly
element_entry constant =
    alike (fields (field (λ (s : ElemSeg). s.table) _ (λ s. Unit {0}) _ fitting_u32 (λ table.
    field (λ (s : ElemSeg). s.offset) _ (λ s. Unit {0} × (s.table ≡ table)) _ constant (λ offset.
    last_field (λ (s : ElemSeg). s.funcs) (λ funcs. record { table = table; offset = offset; funcs = funcs }) (λ s. (Unit {0} × (s.table ≡ table)) × (s.offset ≡ offset)) indices (λ funcs. (((tt, refl), refl), refl))
    (λ s h. λ i. record { table = h.0.1 i; offset = h.1 i; funcs = s.funcs })))))
    (λ s bytes p. apart_three p)
    (λ s bytes p. together_three p.0.0 p.0.1 p.0.2 p.1)

-- a data segment
pub segment_entry : ConstantsReadExactly → SegmentsReadExactly
segment_entry constant =
    alike (fields (field (λ (s : DataSeg). s.memory) _ (λ s. Unit {0}) _ fitting_u32 (λ memory.
    field (λ (s : DataSeg). s.offset) _ (λ s. Unit {0} × (s.memory ≡ memory)) _ constant (λ offset.
    last_field (λ (s : DataSeg). s.bytes) (λ values. record { memory = memory; offset = offset; bytes = values }) (λ s. (Unit {0} × (s.memory ≡ memory)) × (s.offset ≡ offset)) fitting_byte_vector (λ values. (((tt, refl), refl), refl))
    (λ s h. λ i. record { memory = h.0.1 i; offset = h.1 i; bytes = s.bytes })))))
    (λ s bytes p. apart_three p)
    (λ s bytes p. together_three p.0.0 p.0.1 p.0.2 p.1)
