use Rattle.std.proofs.Common.{rules, ◌≡◌, ap, ◌∙◌, Some, None, string_bytes, Option, ℕ}
use Rattle.std.specs.FinMap as finite
use Rattle.std.specs.List.{position}
use Rattle.outside.specs.Files.{files_of, is_named}
use Rattle.outside.proofs.Found.{files_of-set, files_of-push, name_at}
use Rattle.outside.proofs.sure.put_file.Goals as goal

pub returns-in-Some-clause-ok : goal.returns-in-Some-clause-ok
returns-in-Some-clause-ok c =
    let files = c.args.files.now.items in
    let name = c.args.name.now in
    let same_bytes : c.in_ok-bytes.bytes.items ≡ c.args.bytes.now = search rules in
    let at : position (is_named name) files ≡ Some c.in-Some.place = cc in
    let same : string_bytes c.index_mut.result.now.0 ≡ name = name_at name files c.in-Some.place c.index_mut.result.now at c.index_mut.ensures.value in
    files_of-set name files c.in-Some.place (c.index_mut.result.now.0, c.in_ok-bytes.bytes) at same ∙ ap (finite.insert (files_of files) name) same_bytes

pub returns-in_ok-push-clause-ok : goal.returns-in_ok-push-clause-ok
returns-in_ok-push-clause-ok c =
    let files = c.args.files.now.items in
    let name = c.args.name.now in
    let same_bytes : c.in_ok-bytes.bytes.items ≡ c.args.bytes.now = search rules in
    let none : ◌≡◌ {A = Option ℕ} (position (is_named name) files) None = cc in
    ap files_of c.in_ok-push.ensures.items ∙ files_of-push name files (c.in_ok-name.name, c.in_ok-bytes.bytes) none c.in_ok-name.ensures.ok ∙ ap (finite.insert (files_of files) name) same_bytes
