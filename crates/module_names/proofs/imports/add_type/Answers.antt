use Rattle.std.proofs.Common.{◌≡◌, ◌++◌, [], ◌∷◌, map, unwrap_or, option_map, sym, ap, refl, ◌∙◌}
use Rattle.std.proofs.lemmas.List.{map-append, append-nil}
use Rattle.module_names.specs.Indexes.{types_of, under_names}
use Rattle.module_names.proofs.ImportLoops.{type_put_back, was_there}
use Rattle.module_names.proofs.imports.add_type.Goals as goal
use Rattle.module_names.proofs.imports.add_type.Goals.{in-Some+in_ok-push-in-Some, in-None}

pub returns : goal.returns
returns c =
    let x = c.args.import.now in
    type_put_back c.args.types.now.entries c.swap_remove.new.self.entries c.insert.new.self.entries x c.match-ty.found (option_map (λ t. t.now) c.args.ty)
    (λ from name. rw (sym c.as_str.ensures, sym c.as_str-2.ensures) (c.swap_remove.ensures.updates.0
    (record { ref_ptr = (0, 0); now = from }, record { ref_ptr = (0, 0); now = name })))
    (λ from name. rw (sym c.as_str.ensures, sym c.as_str-2.ensures) (c.in_ok-insert.ensures.updates.0
    (record { ref_ptr = (0, 0); now = from }, record { ref_ptr = (0, 0); now = name })))
    (let value : c.swap_remove.result ≡ under_names x.«module» x.name c.args.types.now.entries =
    rw (sym c.as_str.ensures, sym c.as_str-2.ensures) c.swap_remove.ensures.value in
    let there : map (λ t. t.now) c.unwrap_or-found.result.items ≡ unwrap_or (types_of x.«module» x.name c.args.types.now.entries) [] =
    rw c.unwrap_or-found.ensures (was_there c.swap_remove.result c.new.result c.new.ensures.items ∙ rw value refl) in
    elim c.match-ty.branch [
      | in-Some+in_ok-push-in-Some w ↦ rw (w.found-is, w.in_ok-push-in-Some.ensures.items, w.in-Some.is)
          (map-append (λ t. t.now) c.unwrap_or-found.result.items (w.in-Some.ty ∷ [])
          ∙ ap (λ l. l ++ w.in-Some.ty.now ∷ []) there)
      | in-None w ↦ rw (w.found-is, w.in-None.is) (there ∙ sym (append-nil _))
    ])
