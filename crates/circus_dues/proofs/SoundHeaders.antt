-- A thread that has come to a module has its ranges, and so have the calls of its asks.
use Rattle.std.specs.Prelude.{slice_index, min}
use Rattle.std.proofs.Common.{◌≡◌, ℕ, ◌+◌, ◌<◌, ◌≤◌, List, [], ◌∷◌, ◌++◌, length, sym, subst, ◌∙◌, arith, length-append, length-set}
use Rattle.std.proofs.lemmas.List.{length-map}
use Rattle.std.proofs.lemmas.List.Elements.{All-nil, All-push}
use Rattle.circus_limits.specs.Limits.{most_asks, most_modules}
use Rattle.circus_header.specs.declared.call.CallHeader.{CallHeader}
use Rattle.circus_collate.specs.declared.view.View.{View}
use Rattle.circus_model.specs.declared.signature.Signature.{Signature}
use Rattle.circus_record.specs.declared.record.AskRecord.{AskRecord}
use Rattle.circus_record.specs.declared.record.RunRecord.{RunRecord}
use Rattle.circus_gather.specs.declared.held.HeldCall.{HeldCall}
use Rattle.circus_performing.specs.declared.start.RunStart.{RunStart}
use Rattle.circus_performing.specs.Record.{start_of}
use Rattle.circus_member_rules.specs.declared.place.Place.{Place}
use Rattle.circus_member_rules.specs.Step.{start_by_call, main_start}
use Rattle.circus_member_rules.specs.Callable.{IsAsked}
use Rattle.circus_member_rules.specs.Happening.{IsHome, IsThread, IsCallTo}

-- ---- a thread

-- a run may be entered so by a thread that has come to a module
abbrev pub IsThreadOf : ℕ → ℕ → RunStart → Type 0
IsThreadOf troupe modules start = IsThread modules start.root start.path start.clock troupe

pub called_thread : (declared : Signature) (troupe modules : ℕ) (call : HeldCall) → IsCallTo declared troupe modules call.header call.body → IsThreadOf troupe modules (start_by_call troupe declared.procedures call)
called_thread declared troupe modules call can =
    record {
      begins = can.thread.begins;
      numbers = can.thread.numbers;
      short = can.thread.short;
      counts = length-set call.header.clock troupe (min (slice_index call.header.clock troupe + 1) 4294967295) ∙ can.thread.counts;
    }

pub main_thread : (declared : Signature) (place : Place) (views : List View) → IsHome declared place views → IsThreadOf place.troupe (length views) (main_start place.troupe views)
main_thread declared place views home =
    let own = home.own in
    record {
      begins = own;
      numbers = All-nil (λ n. n < most_asks);
      short = omega (arith, own);
      counts = length-map views (λ (v : View). 0);
    }

-- a run that was entered so is of that thread
pub entered_thread : (troupe modules : ℕ) (run : RunRecord) (start : RunStart) → start_of run ≡ start → IsThreadOf troupe modules start → IsThread modules run.root run.path run.entry troupe
entered_thread troupe modules run start same thread = subst (IsThreadOf troupe modules) (sym same) thread

-- ---- a call of an ask

-- what it says of the ask of a number of a run of this index, made at this clock, but for the views that it names
abbrev pub header_at : ℕ → ℕ → RunRecord → ℕ → List ℕ → AskRecord → CallHeader
header_at troupe index run number clock ask =
    record {
      root = run.root;
      path = run.path ++ number ∷ [];
      client = troupe;
      client_incarnation = 0;
      client_index = index;
      server = ask.callee;
      server_incarnation = 0;
      procedure = ask.procedure;
      clock = clock;
    }

pub asked_by_thread : (troupe modules index : ℕ) (run : RunRecord) (number : ℕ) (clock : List ℕ) (ask : AskRecord) → modules ≤ most_modules → troupe < modules
    → IsThread modules run.root run.path run.entry troupe → length clock ≡ modules → number < most_asks → ask.callee < troupe → IsAsked (header_at troupe index run number clock ask)
asked_by_thread troupe modules index run number clock ask most own thread counts few below =
    let long : length (run.path ++ number ∷ []) ≡ length run.path + 1 = length-append run.path (number ∷ []) in
    let begins = thread.begins in
    let short = thread.short in
    record {
      asks = record {
        root = omega (arith, begins, most);
        path_some = omega (arith, long);
        path_most = omega (arith, long, short, most, below);
        path = All-push (λ n. n < most_asks) run.path number thread.numbers few;
        client = omega (arith, own, most);
        client_incarnation = omega arith;
        server = omega (arith, own, most, below);
        server_incarnation = omega arith;
        clock_most = omega (arith, counts, most);
        has_server = omega (arith, counts, own, below);
        has_client = omega (arith, counts, own);
      };
    }
