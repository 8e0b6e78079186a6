-- A run that goes on: after each step of the loop as many steps are reached as were made, and the text of what they printed was put.
use Rattle.std.proofs.Common.{◌≡◌, ◌∙◌, ℕ, suc, ◌+◌, ◌-◌, ◌<◌, ◌≤◌, ◌⊎◌, inl, inr, List, [], ◌∷◌, ◌++◌, length, take, Ok, refl, sym, ap, subst, arith, append_assoc}
use Rattle.std.specs.Prelude.{Option, Some, None}
use Rattle.std.specs.Io.KnownBytes.{append_known}
use Rattle.std.proofs.lemmas.List.{append-nil}
use Rattle.std.proofs.lemmas.Grind.{flat_map-append}
use Rattle.machine_steps.specs.declared.End.{End}
use Rattle.machine_steps.specs.Steps.{Turn, Went, Ended, Going, Reached, preceded, going, over, reached, reached_by}
use Rattle.machine_steps.proofs.Follow.{comes_later}
use Rattle.rw_io.specs.States.{SinkState}
use Rattle.machine_runs.specs.Lines.{printed_line, text_of}
use Rattle.rw_io.specs.States.{NoSinkCountFell}
use Rattle.rw_io.specs.Counts.{Rose}
use Rattle.rw_io.specs.Whole.{HasCause}
use Rattle.rw_io.specs.declared.whole.WriteStop.{WriteStop}
use Rattle.rw_io.specs.declared.whole.WriteStop.TheVariants.{Failed, Stalled as Stall, Memory as NoMemory}
use Rattle.machine_runs.specs.Turns.{GoesOn, EndsNow}
use Rattle.machine_runs.specs.Advances.{LacksOfLine, Halts, Advances}
use Rattle.machine_runs.specs.Runs.{Comes, Runs, StopsBetween, StopsInLine, Stops, since, error_of}
use Rattle.machine_runs.specs.declared.answers.RunError.{RunError}
use Rattle.machine_runs.specs.declared.answers.RunError.TheVariants.{Write, Stalled, Memory}
use Rattle.machine_runs.specs.declared.answers.Outcome.TheVariants as outcome

pub known_none : (known : Option (List ℕ)) → known ≡ append_known known []
known_none None = refl
known_none (Some bs) = ap (λ (b : List ℕ). Some b) (sym (append-nil bs))

known_twice : (known : Option (List ℕ)) (xs ys : List ℕ) → append_known (append_known known xs) ys ≡ append_known known (xs ++ ys)
known_twice None xs ys = refl
known_twice (Some bytes) xs ys = ap (λ (b : List ℕ). Some b) (append_assoc bytes xs ys)

rose_from : (a b c : ℕ) → a ≤ b → Rose b c → Rose a c
rose_from a b c le h = omega (arith, le, h)

pub one_line : (n : ℕ) → text_of (n ∷ []) ≡ printed_line n
one_line n = append-nil (printed_line n)

module _ {A : Type 0} (next : A → Turn ℕ A) (ended : A → Option End) (made : A → ℕ) where
  -- so many steps were made, and the machine has not ended
  pub record Goes (n : ℕ) (first now : A) (out out' : SinkState) : Type 0 where
    pub begun : ended first ≡ None
    pub still : ended now ≡ None
    pub printed : List ℕ
    pub by : reached next n first ≡ going n printed now
    pub counted : made now ≡ made first + n
    pub put : out'.bytes ≡ append_known out.bytes (text_of printed)

  since_first : (n : ℕ) (a : A) → ended a ≡ None → since next ended made n a ≡ reached next n a
  since_first n a e = ap (λ (o : Option End). elim o [ None ↦ reached next n a | Some x ↦ over 0 [] x a ]) e

  pub none_made : (a : A) (out : SinkState) → ended a ≡ None → Goes 0 a a out out
  none_made a out e = record { begun = e; still = e; printed = []; by = refl; counted = omega arith; put = known_none out.bytes }

  one_more : (n : ℕ) (a b c : A) (es ns : List ℕ) → reached next n a ≡ going n es b → next b ≡ Went ns c → reached next (n + 1) a ≡ going (n + 1) (es ++ ns) c
  one_more n a b c es ns by e =
      comes_later next (n + 1) 1 refl (record { by = by })
      ∙ ap (λ (t : Turn ℕ A). preceded n es (reached_by t b (reached next 0))) e
      ∙ ap (λ (l : List ℕ). going (n + 1) (es ++ l) c) (append-nil ns)

  pub goes_on : (n : ℕ) (a b c : A) (ns : List ℕ) (out out' out'' : SinkState) → Goes n a b out out' → GoesOn next ended made b ns c → out''.bytes ≡ append_known out'.bytes (text_of ns) → Goes (n + 1) a c out out''
  goes_on n a b c ns out out' out'' g s put = record {
    begun = g.begun;
    still = s.still;
    printed = g.printed ++ ns;
    by = one_more n a b c g.printed ns g.by s.steps;
    counted = omega (arith, g.counted, s.counted);
    put =
        put
        ∙ ap (λ (k : Option (List ℕ)). append_known k (text_of ns)) g.put
        ∙ known_twice out.bytes (text_of g.printed) (text_of ns)
        ∙ ap (append_known out.bytes) (sym (flat_map-append printed_line g.printed ns));
  }

  pub comes_to : (n : ℕ) (a b : A) (out out' : SinkState) → (g : Goes n a b out out') → Comes next ended made n a g.printed Going b
  comes_to n a b out out' g =
      let is : since next ended made n a ≡ going n g.printed b = since_first n a g.begun ∙ g.by in
      let count : (since next ended made n a).steps ≡ n = ap (λ (r : Reached ℕ A). r.steps) is in
      record {
        prints = ap (λ (r : Reached ℕ A). r.said) is;
        stands = ap (λ (r : Reached ℕ A). r.stand) is;
        at = ap (λ (r : Reached ℕ A). r.at) is;
        over = g.still;
        counted = g.counted ∙ ap (λ (k : ℕ). made a + k) (sym count);
      }

  pub spent : (n : ℕ) (a b : A) (out out' : SinkState) → Goes n a b out out' → Runs next ended made n a outcome.Spent b out out'
  spent n a b out out' g = record { printed = g.printed; comes = comes_to n a b out out' g; put = g.put }

  ends_in : (n k : ℕ) (a b c : A) (es : List ℕ) (e : End) → reached next n a ≡ going n es b → next b ≡ Ended [] e c → reached next (n + suc k) a ≡ over (n + 1) es e c
  ends_in n k a b c es e by s =
      comes_later next (n + suc k) (suc k) refl (record { by = by })
      ∙ ap (λ (t : Turn ℕ A). preceded n es (reached_by t b (reached next k))) s
      ∙ ap (λ (l : List ℕ). over (n + 1) l e c) (append-nil es)

  pub ends : (n steps : ℕ) (a b c : A) (e : End) (out out' : SinkState) → n < steps → Goes n a b out out' → EndsNow next ended made b e c → Runs next ended made steps a (outcome.Ended e) c out out'
  ends n steps a b c e out out' lt g s =
      let left : n + suc (steps - suc n) ≡ steps = omega (arith, lt) in
      let is : since next ended made steps a ≡ over (n + 1) g.printed e c =
      since_first steps a g.begun ∙ ap (λ (k : ℕ). reached next k a) (sym left) ∙ ends_in n (steps - suc n) a b c g.printed e g.by s.steps in
      let count : (since next ended made steps a).steps ≡ n + 1 = ap (λ (r : Reached ℕ A). r.steps) is in
      record {
        printed = g.printed;
        comes = record {
          prints = ap (λ (r : Reached ℕ A). r.said) is;
          stands = ap (λ (r : Reached ℕ A). r.stand) is;
          at = ap (λ (r : Reached ℕ A). r.at) is;
          over = s.ended;
          counted = omega (arith, g.counted, s.counted, count);
        };
        put = g.put;
      }

  pub over_before : (steps : ℕ) (a : A) (e : End) (out : SinkState) → ended a ≡ Some e → Runs next ended made steps a (outcome.Ended e) a out out
  over_before steps a e out f =
      let is : since next ended made steps a ≡ over 0 [] e a = ap (λ (o : Option End). elim o [ None ↦ reached next steps a | Some x ↦ over 0 [] x a ]) f in
      let count : (since next ended made steps a).steps ≡ 0 = ap (λ (r : Reached ℕ A). r.steps) is in
      record {
        printed = [];
        comes = record {
          prints = ap (λ (r : Reached ℕ A). r.said) is;
          stands = ap (λ (r : Reached ℕ A). r.stand) is;
          at = ap (λ (r : Reached ℕ A). r.at) is;
          over = f;
          counted = omega (arith, count);
        };
        put = known_none out.bytes;
      }

  pub between : (n steps : ℕ) (a b c : A) (out out' : SinkState) → n < steps → Goes n a b out out' → c ≡ b → StopsBetween next ended made steps a c out out'
  between n steps a b c out out' lt g e =
      subst (λ (x : A). StopsBetween next ended made steps a x out out') (sym e) (record { count = n; fewer = lt; printed = g.printed; comes = comes_to n a b out out' g; put = g.put })

  pub in_line : (n steps left m : ℕ) (a b c : A) (out out' out'' : SinkState) → n < steps → Goes n a b out out' → GoesOn next ended made b (m ∷ []) c → 0 < left → left ≤ length (printed_line m)
      → out''.bytes ≡ append_known out'.bytes (take (length (printed_line m) - left) (printed_line m)) → StopsInLine next ended made steps left a c out out''
  in_line n steps left m a b c out out' out'' lt g s some within put =
      let is : since next ended made (n + 1) a ≡ going (n + 1) (g.printed ++ m ∷ []) c = since_first (n + 1) a g.begun ∙ one_more n a b c g.printed (m ∷ []) g.by s.steps in
      let count : (since next ended made (n + 1) a).steps ≡ n + 1 = ap (λ (r : Reached ℕ A). r.steps) is in
      record {
        count = n + 1;
        most = omega (arith, lt);
        printed = g.printed;
        last = m;
        comes = record {
          prints = ap (λ (r : Reached ℕ A). r.said) is;
          stands = ap (λ (r : Reached ℕ A). r.stand) is;
          at = ap (λ (r : Reached ℕ A). r.at) is;
          over = s.still;
          counted = omega (arith, g.counted, s.counted, count);
        };
        some = some;
        within = within;
        put =
            put
            ∙ ap (λ (k : Option (List ℕ)). append_known k (take (length (printed_line m) - left) (printed_line m))) g.put
            ∙ known_twice out.bytes (text_of g.printed) (take (length (printed_line m) - left) (printed_line m));
      }

  pub halts_by : (s : WriteStop) (left : ℕ) (a c : A) (out out' : SinkState) → HasCause s out.faults out'.faults out.stalls out'.stalls → LacksOfLine next ended made left a c out out' → Halts next ended made a (error_of (record { stop = s; left = left })) c out out'
  halts_by Failed left a c out out' cause h = (h, cause)
  halts_by Stall left a c out out' cause h = (h, cause)
  halts_by NoMemory left a c out out' cause h = inr (left, h)

  pub stops : (n steps : ℕ) (e : RunError) (a b c : A) (out out' out'' : SinkState) → n < steps → Goes n a b out out' → NoSinkCountFell out out' → Halts next ended made b e c out' out'' → Stops next ended made steps a e c out out''
  stops n steps (Write left) a b c out out' out'' lt g counts h =
      (in_line n steps left h.0.last a b c out out' out'' lt g h.0.goes h.0.some h.0.within h.0.put, rose_from out.faults out'.faults out''.faults counts.puts h.1)
  stops n steps (Stalled left) a b c out out' out'' lt g counts h =
      (in_line n steps left h.0.last a b c out out' out'' lt g h.0.goes h.0.some h.0.within h.0.put, rose_from out.stalls out'.stalls out''.stalls counts.stalled h.1)
  stops n steps Memory a b c out out' out'' lt g counts (inl h) = subst (λ (o : SinkState). StopsBetween next ended made steps a c out o ⊎ ((left : ℕ) × StopsInLine next ended made steps left a c out o)) (sym h.1) (inl (between n steps a b c out out' lt g h.0))
  stops n steps Memory a b c out out' out'' lt g counts (inr h) = inr (h.0, in_line n steps h.0 h.1.last a b c out out' out'' lt g h.1.goes h.1.some h.1.within h.1.put)

  pub ended_in : (n steps : ℕ) (e : End) (a b c : A) (out out' out'' : SinkState) → n < steps → Goes n a b out out' → Advances next ended made b (Ok (Some e)) c out' out'' → Runs next ended made steps a (outcome.Ended e) c out out''
  ended_in n steps e a b c out out' out'' lt g (inl s, same) = subst (λ (o : SinkState). Runs next ended made steps a (outcome.Ended e) c out o) (sym same) (ends n steps a b c e out out' lt g s)
  ended_in n steps e a b c out out' out'' lt g (inr s, same) = absurd (none_some (sym g.still ∙ s.ended))
    where
      none_some : {e : End} → ◌≡◌ {A = Option End} None (Some e) → ⊥
      none_some q = cc
