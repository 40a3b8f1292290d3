use Rattle.std.proofs.Common.{◌≡◌, map}
use Rattle.std.specs.List.{list_any, list_all}
use Rattle.std.specs.Str.{bytes_eq}
use Rattle.serde_json.specs.View.{members_view}
use Rattle.script_text.specs.Walk.{keys_of}
use Rattle.decl_text.proofs.objects.are_listed.Given as goal

abbrev pub invariant-keys : goal.invariant-keys
invariant-keys l =
    list_all (λ key. list_any (bytes_eq key) (map (λ name. name.now) l.listed)) (keys_of (members_view l.fn.object.entries))
    ≡ list_all (λ key. list_any (bytes_eq key) (map (λ name. name.now) l.listed)) (keys_of (members_view l.key-iterator))
