-- An instruction that leads from one stack to another does so in a wider context too, with functions renumbered.
use Rattle.std.proofs.Common.{◌≡◌, ℕ, zero, suc, List, [], ◌∷◌, Option, Some, None, Bool, true, false, cond, slice_get, option_map, option_and_then, refl, sym, ap, ◌∙◌, subst}
use Rattle.std.proofs.lemmas.List.Elements.{All-weaker}
use Rattle.std.proofs.lemmas.Option.{none-some}
use Rattle.base.proofs.Options.{cond_some, map_wider}
use Rattle.wasm_syntax.specs.declared.values.ValType.{ValType}
use Rattle.wasm_syntax.specs.declared.values.ValType.TheVariants.{I32, FuncRef}
use Rattle.wasm_syntax.specs.declared.signatures.FuncType.{FuncType}
use Rattle.wasm_syntax.specs.declared.signatures.GlobalType.{GlobalType}
use Rattle.wasm_syntax.specs.declared.instructions.Instr.{Instr}
use Rattle.wasm_syntax.specs.declared.instructions.Instr.TheVariants.{Unreachable, Nop, Br, BrIf, BrTable, Return, Call, CallIndirect, Drop, Select, LocalGet, LocalSet, LocalTee, GlobalGet, GlobalSet, Load, Store, MemorySize, MemoryGrow, MemoryCopy, MemoryFill, Const, Numeric, RefNull, RefFunc, TableSet, TableGrow, TableSize}
use Rattle.wasm_syntax.specs.Opcodes.{load_of, store_of}
use Rattle.wasm_syntax.specs.Typing.{Context, InstrType, Moves, Drops, Selects, Leaves, Switches, call_of, indirect_of, set_of, load_type, store_type, if_true, has_memory, has_table, is_declared, func_at, instr_type, Leads, inside}

-- the wider context knows what the first one knows, with functions renumbered; it may declare fewer functions
pub record Widens (to : ℕ → ℕ) (ctx wider : Context) : Type 0 where
  pub types : (t : ℕ) (ty : FuncType) → slice_get ctx.types t ≡ Some ty → slice_get wider.types t ≡ Some ty
  pub funcs : (f : ℕ) (ty : FuncType) → func_at ctx f ≡ Some ty → func_at wider (to f) ≡ Some ty
  pub tables : (x : ℕ) → has_table ctx x ≡ has_table wider x
  pub memory : has_memory ctx ≡ has_memory wider
  pub globals : (x : ℕ) (g : GlobalType) → slice_get ctx.globals x ≡ Some g → slice_get wider.globals x ≡ Some g
  pub locals : (x : ℕ) (t : ValType) → slice_get ctx.locals x ≡ Some t → slice_get wider.locals x ≡ Some t
  pub labels : (l : ℕ) (x : List ValType) → slice_get ctx.labels l ≡ Some x → slice_get wider.labels l ≡ Some x
  pub results : wider.results ≡ ctx.results

-- an instruction with the function that it calls renumbered
abbrev pub calling : (ℕ → ℕ) → Instr → Instr
calling to (Call f) = Call (to f)
calling to i = i

pub calling_same : (i : Instr) → calling (λ f. f) i ≡ i
calling_same (Call f) = refl
calling_same i = refl

-- a function to which the instruction refers is declared in the wider context if it is declared in the first
abbrev pub IsKnown : Context → Context → Instr → Type 0
IsKnown ctx wider i = (f : ℕ) → i ≡ RefFunc f → is_declared ctx f ≡ true → is_declared wider f ≡ true

-- ---- types from options

then_wider : {X : Type 0} (g : X → Option InstrType) (o other : Option X) (e : InstrType)
    → ((x : X) → o ≡ Some x → other ≡ Some x) → option_and_then g o ≡ Some e → option_and_then g other ≡ Some e
then_wider g None other e there h = absurd (none-some e h)
then_wider g (Some x) other e there h = ap (option_and_then g) (there x refl) ∙ h

cond_wider : (b c : Bool) (o other : Option InstrType) (e : InstrType) → b ≡ c → (o ≡ Some e → other ≡ Some e)
    → cond b o None ≡ Some e → cond c other None ≡ Some e
cond_wider true c o other e same there h = ap (λ b. cond b other None) (sym same) ∙ there h
cond_wider false c o other e same there h = absurd (none-some e h)

-- ---- instructions

module _ (to : ℕ → ℕ) (ctx wider : Context) (w : Widens to ctx wider) where
  in_memory : (o : Option InstrType) (e : InstrType) → cond (has_memory ctx) o None ≡ Some e
      → cond (has_memory wider) o None ≡ Some e
  in_memory o e h = cond_wider (has_memory ctx) (has_memory wider) o o e w.memory (λ q. q) h

  in_table : (x : ℕ) (ty e : InstrType) → if_true (has_table ctx x) ty ≡ Some e
      → if_true (has_table wider x) ty ≡ Some e
  in_table x ty e h = cond_wider (has_table ctx x) (has_table wider x) (Some ty) (Some ty) e (w.tables x) (λ q. q) h

  type_wider : (i : Instr) (e : InstrType) → IsKnown ctx wider i → instr_type ctx i ≡ Some e
      → instr_type wider (calling to i) ≡ Some e
  type_wider Unreachable e known h = h
  type_wider Nop e known h = h
  type_wider (Br l) e known h = map_wider Leaves (slice_get ctx.labels l) (slice_get wider.labels l) e (w.labels l) h
  type_wider (BrIf l) e known h =
      map_wider (λ (label : List ValType). Moves (I32 ∷ label) label) (slice_get ctx.labels l)
      (slice_get wider.labels l) e (w.labels l) h
  type_wider (BrTable ls l) e known h = h
  type_wider Return e known h = ap (λ results. Some (Leaves results)) w.results ∙ h
  type_wider (Call f) e known h = map_wider call_of (func_at ctx f) (func_at wider (to f)) e (w.funcs f) h
  type_wider (CallIndirect t) e known h =
      cond_wider (has_table ctx 0) (has_table wider 0) (option_map indirect_of (slice_get ctx.types t))
      (option_map indirect_of (slice_get wider.types t)) e (w.tables 0)
      (map_wider indirect_of (slice_get ctx.types t) (slice_get wider.types t) e (w.types t)) h
  type_wider Drop e known h = h
  type_wider Select e known h = h
  type_wider (LocalGet x) e known h =
      map_wider (λ (t : ValType). Moves [] (t ∷ [])) (slice_get ctx.locals x) (slice_get wider.locals x) e
      (w.locals x) h
  type_wider (LocalSet x) e known h =
      map_wider (λ (t : ValType). Moves (t ∷ []) []) (slice_get ctx.locals x) (slice_get wider.locals x) e
      (w.locals x) h
  type_wider (LocalTee x) e known h =
      map_wider (λ (t : ValType). Moves (t ∷ []) (t ∷ [])) (slice_get ctx.locals x) (slice_get wider.locals x) e
      (w.locals x) h
  type_wider (GlobalGet x) e known h =
      map_wider (λ (g : GlobalType). Moves [] (g.ty ∷ [])) (slice_get ctx.globals x) (slice_get wider.globals x) e
      (w.globals x) h
  type_wider (GlobalSet x) e known h =
      then_wider set_of (slice_get ctx.globals x) (slice_get wider.globals x) e (w.globals x) h
  type_wider (Load arg) e known h = in_memory (option_and_then (load_type arg) (load_of arg.op)) e h
  type_wider (Store arg) e known h = in_memory (option_and_then (store_type arg) (store_of arg.op)) e h
  type_wider MemorySize e known h = in_memory (Some (Moves [] (I32 ∷ []))) e h
  type_wider MemoryGrow e known h = in_memory (Some (Moves (I32 ∷ []) (I32 ∷ []))) e h
  type_wider MemoryCopy e known h = in_memory (Some (Moves (I32 ∷ I32 ∷ I32 ∷ []) [])) e h
  type_wider MemoryFill e known h = in_memory (Some (Moves (I32 ∷ I32 ∷ I32 ∷ []) [])) e h
  type_wider (Const v) e known h = h
  type_wider (Numeric op) e known h = h
  type_wider RefNull e known h = h
  type_wider (RefFunc f) e known h =
      let parts = cond_some (is_declared ctx f) (Some (Moves [] (FuncRef ∷ []))) e h in
      ap (λ b. if_true b (Moves [] (FuncRef ∷ []))) (known f refl parts.0) ∙ parts.1
  type_wider (TableSet x) e known h = in_table x (Moves (FuncRef ∷ I32 ∷ []) []) e h
  type_wider (TableGrow x) e known h = in_table x (Moves (I32 ∷ FuncRef ∷ []) (I32 ∷ [])) e h
  type_wider (TableSize x) e known h = in_table x (Moves [] (I32 ∷ [])) e h
  type_wider i e known h = absurd (none-some e h)

  same_type : (e : InstrType) (before after : List ValType) → Leads ctx (Some e) before after
      → Leads wider (Some e) before after
  same_type (Moves operands results) before after leads = leads
  same_type Drops before after leads = leads
  same_type Selects before after leads = leads
  same_type (Leaves operands) before after leads = leads
  same_type (Switches targets) before after leads =
      record {
        label = leads.label;
        each =
            All-weaker (λ l. slice_get ctx.labels l ≡ Some leads.label)
            (λ l. slice_get wider.labels l ≡ Some leads.label)
            (λ l is. w.labels l leads.label is) targets leads.each;
        stands = leads.stands;
      }

  pub leads_wider : (i : Instr) (before after : List ValType) → IsKnown ctx wider i
      → Leads ctx (instr_type ctx i) before after → Leads wider (instr_type wider (calling to i)) before after
  leads_wider i before after known = go (instr_type ctx i) refl
    where
      go : (e : Option InstrType) → instr_type ctx i ≡ e → Leads ctx e before after
          → Leads wider (instr_type wider (calling to i)) before after
      go None q leads = absurd leads
      go (Some e) q leads =
          subst (λ o. Leads wider o before after) (sym (type_wider i e known q)) (same_type e before after leads)

-- ---- blocks

label_inside : (label : List ValType) (labels wider : List (List ValType))
    → ((l : ℕ) (x : List ValType) → slice_get labels l ≡ Some x → slice_get wider l ≡ Some x)
    → (l : ℕ) (x : List ValType) → slice_get (label ∷ labels) l ≡ Some x → slice_get (label ∷ wider) l ≡ Some x
label_inside label labels wider there zero x h = h
label_inside label labels wider there (suc l) x h = there l x h

pub inside_wider : (to : ℕ → ℕ) (label : List ValType) (ctx wider : Context) → Widens to ctx wider
    → Widens to (inside label ctx) (inside label wider)
inside_wider to label ctx wider w =
    record {
      types = w.types;
      funcs = w.funcs;
      tables = w.tables;
      memory = w.memory;
      globals = w.globals;
      locals = w.locals;
      labels = label_inside label ctx.labels wider.labels w.labels;
      results = w.results;
    }
