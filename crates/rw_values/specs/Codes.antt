-- A code of values, by which a proof tells them apart: a value as a row of pieces, from which it is read back as a machine with
-- a stack reads. This project's own.
use Rattle.std.specs.Prelude.{◌≡◌, refl, ℕ, Bool, true, false, List, [], ◌∷◌, ◌⊎◌}
use Rattle.std.proofs.Common.{◌∙◌, ap, inl, inr}
use Rattle.std.specs.Coded.{Coded, code_by, coded×, coded⊎, coded_ℕ, coded_bool, coded_list}
use Rattle.rw_types.specs.declared.types.Mem.{Mem}
use Rattle.rw_types.specs.declared.types.Mem.TheVariants.{L, U}
use Rattle.rw_types.specs.declared.types.Priv.{Priv}
use Rattle.rw_types.specs.declared.types.Priv.TheVariants.{Rw, R}
use Rattle.rich_reduction.specs.Configurations.{Location, Val, Number, Empty, Tuple, Ref, Ptr, Cap, Own, Fold, Pack, Code, Vals, none, more}

abbrev pub is_linear : Mem → Bool
is_linear L = true
is_linear U = false

abbrev pub memory : Bool → Mem
memory true = L
memory false = U

abbrev pub is_writing : Priv → Bool
is_writing Rw = true
is_writing R = false

abbrev pub privilege : Bool → Priv
privilege true = Rw
privilege false = R

-- where a number stands alone; where a location stands, with a privilege or without; and what joins the pieces before it
abbrev pub Piece : Type 0
Piece = (Bool × ℕ) ⊎ ((Bool × (ℕ × (Bool × Bool))) ⊎ ((Bool × (ℕ × Bool)) ⊎ (Bool × (Bool × Bool))))

abbrev pub piece_code : Coded Piece
piece_code = coded⊎ (coded× coded_bool coded_ℕ) (coded⊎ (coded× coded_bool (coded× coded_ℕ (coded× coded_bool coded_bool)))
    (coded⊎ (coded× coded_bool (coded× coded_ℕ coded_bool)) (coded× coded_bool (coded× coded_bool coded_bool))))

abbrev mutual
  -- the pieces of a value, before these
  pub written : Val → List Piece → List Piece
  written (Number n) after = inl (true, n) ∷ after
  written (Code f) after = inl (false, f) ∷ after
  written (Ref l p) after = inr (inl (true, (l.number, (is_linear l.mem, is_writing p)))) ∷ after
  written (Cap l p) after = inr (inl (false, (l.number, (is_linear l.mem, is_writing p)))) ∷ after
  written (Ptr l) after = inr (inr (inl (true, (l.number, is_linear l.mem)))) ∷ after
  written (Own l) after = inr (inr (inl (false, (l.number, is_linear l.mem)))) ∷ after
  written Empty after = inr (inr (inr (true, (true, true)))) ∷ after
  written (Fold v) after = written v (inr (inr (inr (true, (true, false)))) ∷ after)
  written (Pack v) after = written v (inr (inr (inr (true, (false, true)))) ∷ after)
  written (Tuple vs) after = written_all vs (inr (inr (inr (true, (false, false)))) ∷ after)

  pub written_all : Vals → List Piece → List Piece
  written_all none after = inr (inr (inr (false, (true, true)))) ∷ after
  written_all (more v vs) after = written_all vs (written v (inr (inr (inr (false, (false, false)))) ∷ after))

-- a location that is read
abbrev pub found : Bool → ℕ → Location
found m n = record { mem = memory m; number = n }

-- what a piece makes of the values and the parts of tuples that were read, the last one first
abbrev pub joined : Bool → Bool → Bool → List Val → List Vals → List Val × List Vals
joined true true true vs ps = (Empty ∷ vs, ps)
joined true true false (v ∷ vs) ps = (Fold v ∷ vs, ps)
joined true false true (v ∷ vs) ps = (Pack v ∷ vs, ps)
joined true false false vs (p ∷ ps) = (Tuple p ∷ vs, ps)
joined false true true vs ps = (vs, none ∷ ps)
joined false false false (v ∷ vs) (p ∷ ps) = (vs, more v p ∷ ps)
joined _ _ _ vs ps = (vs, ps)

abbrev pub read : List Piece → List Val → List Vals → List Val
read [] vs ps = vs
read (inl (true, n) ∷ rest) vs ps = read rest (Number n ∷ vs) ps
read (inl (false, f) ∷ rest) vs ps = read rest (Code f ∷ vs) ps
read (inr (inl (true, (n, (m, p)))) ∷ rest) vs ps = read rest (Ref (found m n) (privilege p) ∷ vs) ps
read (inr (inl (false, (n, (m, p)))) ∷ rest) vs ps = read rest (Cap (found m n) (privilege p) ∷ vs) ps
read (inr (inr (inl (true, (n, m)))) ∷ rest) vs ps = read rest (Ptr (found m n) ∷ vs) ps
read (inr (inr (inl (false, (n, m)))) ∷ rest) vs ps = read rest (Own (found m n) ∷ vs) ps
read (inr (inr (inr (a, (b, c)))) ∷ rest) vs ps = read rest (joined a b c vs ps).0 (joined a b c vs ps).1

abbrev pub first : List Val → Val
first [] = Empty
first (v ∷ vs) = v

pub same_memory : (m : Mem) → memory (is_linear m) ≡ m
same_memory L = refl
same_memory U = refl

pub same_privilege : (p : Priv) → privilege (is_writing p) ≡ p
same_privilege Rw = refl
same_privilege R = refl

pub same_location : (l : Location) → found (is_linear l.mem) l.number ≡ l
same_location l = ap (λ (m : Mem). record { mem = m; number = l.number }) (same_memory l.mem)

mutual
  pub read-written : (v : Val) (after : List Piece) (vs : List Val) (ps : List Vals) → read (written v after) vs ps ≡ read after (v ∷ vs) ps
  read-written (Number n) after vs ps = refl
  read-written (Code f) after vs ps = refl
  read-written (Ref l p) after vs ps = ap (λ (k : Location). read after (Ref k (privilege (is_writing p)) ∷ vs) ps) (same_location l)
      ∙ ap (λ (q : Priv). read after (Ref l q ∷ vs) ps) (same_privilege p)
  read-written (Cap l p) after vs ps = ap (λ (k : Location). read after (Cap k (privilege (is_writing p)) ∷ vs) ps) (same_location l)
      ∙ ap (λ (q : Priv). read after (Cap l q ∷ vs) ps) (same_privilege p)
  read-written (Ptr l) after vs ps = ap (λ (k : Location). read after (Ptr k ∷ vs) ps) (same_location l)
  read-written (Own l) after vs ps = ap (λ (k : Location). read after (Own k ∷ vs) ps) (same_location l)
  read-written Empty after vs ps = refl
  read-written (Fold v) after vs ps = read-written v _ vs ps
  read-written (Pack v) after vs ps = read-written v _ vs ps
  read-written (Tuple parts) after vs ps = read-written_all parts _ vs ps

  pub read-written_all : (parts : Vals) (after : List Piece) (vs : List Val) (ps : List Vals) → read (written_all parts after) vs ps ≡ read after vs (parts ∷ ps)
  read-written_all none after vs ps = refl
  read-written_all (more v parts) after vs ps = read-written_all parts _ vs ps ∙ read-written v _ vs (parts ∷ ps)

abbrev pub val_code : Coded Val
val_code = code_by (List Piece) (coded_list piece_code) (λ v. written v []) (λ pieces. first (read pieces [] [])) (λ v. ap first (read-written v [] [] []))
