use Rattle.std.proofs.Common.{◌≡◌, ◌++◌, string_bytes, take}
use Rattle.circus_value.proofs.ShownMore.{others_text}
use Rattle.circus_value.proofs.shown.+value_text.Given as goal

-- the front of the others is added behind the first
abbrev pub invariant-append_items-loop-item : goal.invariant-append_items-loop-item
invariant-append_items-loop-item l = string_bytes l.text ≡ string_bytes l.initial.text ++ others_text (take l.item-index l.others)
