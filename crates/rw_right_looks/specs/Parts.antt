-- What becomes of a reference that is split, and of a capability. This project's own.
use Rattle.rw_types.specs.declared.types.Pre.{Ref, Cap}
use Rattle.rw_types.specs.declared.types.Priv.{Priv}
use Rattle.rw_types.specs.declared.types.Qual.TheVariants.{Lin}
use Rattle.rw_types.specs.declared.types.Ty.{Ty, Of}

-- the capability of a reference; another type stays
abbrev pub capability_of : Ty → Ty
capability_of (Of q (Ref p l h)) = Of Lin (Cap p l h)
capability_of t = t

-- the reference of a capability; another type stays
abbrev pub reference_of : Ty → Ty
reference_of (Of q (Cap p l h)) = Of Lin (Ref p l h)
reference_of t = t

-- the capability with another privilege; another type stays
abbrev pub with_privilege : Priv → Ty → Ty
with_privilege p (Of q (Cap r l h)) = Of Lin (Cap p l h)
with_privilege p t = t
