-- What the layout of an ask's header takes.
use Rattle.std.proofs.Common.{◌≡◌, ℕ, ◌+◌, ◌<◌, ◌≤◌, ◌^◌, max, List, [], ◌∷◌, ◌++◌, length, map, All, refl, sym, ap, ◌∙◌, subst, arith}
use Rattle.circus_header.specs.Field.{Field, word, long, HasRoom}
use Rattle.circus_header.specs.CallFields.{ask_fields, IsAsk}
use Rattle.circus_header.specs.Seen.Layout.{of_word, of_long, end, field, then_layout}
use Rattle.circus_header.specs.Seen.Layouts.{path_layout, clock_layout, client_layout, server_layout, ask_of, behind_server, behind_client, behind_path, ask_layout}
use Rattle.circus_header.specs.declared.party.Client.{Client}
use Rattle.circus_header.specs.declared.party.Server.{Server}
use Rattle.circus_header.specs.declared.call.CallHeader.{CallHeader}
use Rattle.circus_header.proofs.Accepting.{Accepts, Live, front, parted, live_followed, accepts_followed, accepts_mapped, mapped, ends_with}
use Rattle.circus_header.proofs.Clocks.{IsPath, IsClock, live_path, live_clock, accepts_path, accepts_clock, path_meant, clock_meant, longs_room, room_behind}

abbrev client_fields : Client → List Field
client_fields x = word x.number ∷ long x.incarnation ∷ long x.index ∷ []

abbrev server_fields : Server → List Field
server_fields x = word x.number ∷ long x.incarnation ∷ word x.procedure ∷ []

pub record IsClient (x : Client) (fs : List Field) : Type 0 where
  pub most : x.number ≤ 31
  pub some : 1 ≤ x.incarnation
  pub are : fs ≡ client_fields x

pub record IsServer (x : Server) (fs : List Field) : Type 0 where
  pub most : x.number ≤ 31
  pub some : 1 ≤ x.incarnation
  pub are : fs ≡ server_fields x

-- three fields one behind another
join_client : (a b c : ℕ) (fs us vs ws : List Field) → fs ≡ word a ∷ us → us ≡ long b ∷ vs → vs ≡ long c ∷ ws → ws ≡ [] → fs ≡ word a ∷ long b ∷ long c ∷ []
join_client a b c fs us vs ws p q r s = cc

join_server : (a b c : ℕ) (fs us vs ws : List Field) → fs ≡ word a ∷ us → us ≡ long b ∷ vs → vs ≡ word c ∷ ws → ws ≡ [] → fs ≡ word a ∷ long b ∷ word c ∷ []
join_server a b c fs us vs ws p q r s = cc

pub client_meant : (x : Client) (fs : List Field) → Accepts client_layout fs x → IsClient x fs
client_meant x fs a =
    let p = front of_word 0 31 (λ n. field of_long 1 4294967295 (λ b. field of_long 0 4294967295 (λ c. end (record { number = n; incarnation = b; index = c })))) fs x a in
    let q = front of_long 1 4294967295 (λ b. field of_long 0 4294967295 (λ c. end (record { number = p.n; incarnation = b; index = c }))) p.others x p.taken in
    let r = front of_long 0 4294967295 (λ c. end (record { number = p.n; incarnation = q.n; index = c })) q.others x q.taken in
    let last = ends_with (record { number = p.n; incarnation = q.n; index = r.n }) r.others x r.taken in
    subst (λ w. IsClient w fs) (sym last.1) (record { most = p.high; some = q.low; are = join_client p.n q.n r.n fs p.others q.others r.others p.are q.are r.are last.0 })

pub server_meant : (x : Server) (fs : List Field) → Accepts server_layout fs x → IsServer x fs
server_meant x fs a =
    let p = front of_word 0 31 (λ n. field of_long 1 4294967295 (λ b. field of_word 0 65535 (λ c. end (record { number = n; incarnation = b; procedure = c })))) fs x a in
    let q = front of_long 1 4294967295 (λ b. field of_word 0 65535 (λ c. end (record { number = p.n; incarnation = b; procedure = c }))) p.others x p.taken in
    let r = front of_word 0 65535 (λ c. end (record { number = p.n; incarnation = q.n; procedure = c })) q.others x q.taken in
    let last = ends_with (record { number = p.n; incarnation = q.n; procedure = r.n }) r.others x r.taken in
    subst (λ w. IsServer w fs) (sym last.1) (record { most = p.high; some = q.low; are = join_server p.n q.n r.n fs p.others q.others r.others p.are q.are r.are last.0 })

live_client : Live client_layout
live_client = (omega arith, omega arith, λ n _ _. (omega arith, omega arith, λ b _ _. (omega arith, omega arith, λ c _ _. tt)))

live_server : Live server_layout
live_server = (omega arith, omega arith, λ n _ _. (omega arith, omega arith, λ b _ _. (omega arith, omega arith, λ c _ _. tt)))

live_behind : (root : ℕ) (path : List ℕ) (client : Client) (server : Server) → client.number ≤ 31 → server.number ≤ 31 → Live (behind_server root path client server)
live_behind root path client server low high =
    live_followed (clock_layout (max client.number server.number + 1)) (λ clock. end (ask_of root path client server clock))
    (live_clock (max client.number server.number + 1) (omega arith)) (λ fs x a. tt)

pub live_ask : Live ask_layout
live_ask = (
  omega arith,
  omega arith,
  λ root _ _.
      live_followed path_layout (behind_path root) live_path (λ fs path a.
      live_followed client_layout (behind_client root path) live_client (λ gs client b.
      live_followed server_layout (behind_server root path client) live_server (λ ks server c.
      live_behind root path client server (client_meant client gs b).most (server_meant server ks c).most))),
)

-- the parties of an ask
abbrev client_of : CallHeader → Client
client_of h = record { number = h.client; incarnation = h.client_incarnation; index = h.client_index }

abbrev server_of : CallHeader → Server
server_of h = record { number = h.server; incarnation = h.server_incarnation; procedure = h.procedure }

abbrev clock_fields : CallHeader → List Field
clock_fields h = word (length h.clock) ∷ map long h.clock

taken_clock : (h : CallHeader) → IsAsk h → All HasRoom (clock_fields h) → Accepts (behind_server h.root h.path (client_of h) (server_of h)) (clock_fields h) h
taken_clock h is room =
    let has_server : h.server < length h.clock = is.has_server in
    let has_client : h.client < length h.clock = is.has_client in
    accepts_mapped (clock_layout (max h.client h.server + 1)) (λ clock. ask_of h.root h.path (client_of h) (server_of h) clock) (clock_fields h) h.clock
    (accepts_clock (max h.client h.server + 1) h.clock (omega arith) is.clock_most (longs_room h.clock (room_behind (word (length h.clock) ∷ []) (map long h.clock) room)))

taken_server : (h : CallHeader) → IsAsk h → All HasRoom (server_fields (server_of h) ++ clock_fields h)
    → Accepts (behind_client h.root h.path (client_of h)) (server_fields (server_of h) ++ clock_fields h) h
taken_server h is room =
    let incarnation : h.server_incarnation < 2 ^ 32 = room 1 (word 0) (omega arith) in
    let procedure : h.procedure < 65536 = room 2 (word 0) (omega arith) in
    accepts_followed server_layout (behind_server h.root h.path (client_of h)) (server_fields (server_of h)) (clock_fields h) (server_of h) h
    (refl, omega arith, omega (arith, is.server), (refl, is.server_incarnation, omega arith, (refl, omega arith, omega arith, refl)))
    (taken_clock h is (room_behind (server_fields (server_of h)) (clock_fields h) room))

taken_client : (h : CallHeader) → IsAsk h → All HasRoom (client_fields (client_of h) ++ (server_fields (server_of h) ++ clock_fields h))
    → Accepts (behind_path h.root h.path) (client_fields (client_of h) ++ (server_fields (server_of h) ++ clock_fields h)) h
taken_client h is room =
    let incarnation : h.client_incarnation < 2 ^ 32 = room 1 (word 0) (omega arith) in
    let index : h.client_index < 2 ^ 32 = room 2 (word 0) (omega arith) in
    accepts_followed client_layout (behind_client h.root h.path) (client_fields (client_of h)) (server_fields (server_of h) ++ clock_fields h) (client_of h) h
    (refl, omega arith, omega (arith, is.client), (refl, is.client_incarnation, omega arith, (refl, omega arith, omega arith, refl)))
    (taken_server h is (room_behind (client_fields (client_of h)) (server_fields (server_of h) ++ clock_fields h) room))

pub taken_ask : (h : CallHeader) → IsAsk h → All HasRoom (ask_fields h) → Accepts ask_layout (ask_fields h) h
taken_ask h is room =
    let behind : List Field = client_fields (client_of h) ++ (server_fields (server_of h) ++ clock_fields h) in (
      refl,
      omega arith,
      omega (arith, is.root),
      accepts_followed path_layout (behind_path h.root) (word (length h.path) ∷ map word h.path) behind h.path h
          (accepts_path h.path is.path_some is.path_most is.path)
          (taken_client h is (room_behind (word h.root ∷ word (length h.path) ∷ map word h.path) behind room)),
    )

-- the parts of an ask's fields make the whole
join_ask : (n : ℕ) (path : List ℕ) (client : Client) (server : Server) (clock : List ℕ) (fs others pf pg cf cg sf sg : List Field)
    → fs ≡ word n ∷ others → others ≡ pf ++ pg → pg ≡ cf ++ cg → cg ≡ sf ++ sg
    → pf ≡ word (length path) ∷ map word path → cf ≡ client_fields client → sf ≡ server_fields server → sg ≡ word (length clock) ∷ map long clock
    → fs ≡ ask_fields (ask_of n path client server clock)
join_ask n path client server clock fs others pf pg cf cg sf sg a b c d p q r s =
    let last : cg ≡ server_fields server ++ (word (length clock) ∷ map long clock) = d ∙ ap (λ w. w ++ sg) r ∙ ap (λ w. server_fields server ++ w) s in
    let middle : pg ≡ client_fields client ++ (server_fields server ++ (word (length clock) ∷ map long clock)) =
    c ∙ ap (λ w. w ++ cg) q ∙ ap (λ w. client_fields client ++ w) last in
    a ∙ ap (λ w. word n ∷ w) (b ∙ ap (λ w. w ++ pg) p ∙ ap (λ w. (word (length path) ∷ map word path) ++ w) middle)

ask_is : (n : ℕ) (path : List ℕ) (client : Client) (server : Server) (clock : List ℕ) (pf cf sf sg : List Field) → n ≤ 31
    → IsPath path pf → IsClient client cf → IsServer server sf → IsClock (max client.number server.number + 1) clock sg
    → IsAsk (ask_of n path client server clock)
ask_is n path client server clock pf cf sf sg le p c s k =
    let most_client = c.most in
    let most_server = s.most in
    let least = k.some in
    record {
      root = omega arith;
      path_some = p.some;
      path_most = p.most;
      path = p.each;
      client = omega arith;
      client_incarnation = c.some;
      server = omega arith;
      server_incarnation = s.some;
      clock_most = k.most;
      has_server = omega arith;
      has_client = omega arith;
    }

pub ask_meant : (h : CallHeader) (fs : List Field) → Accepts ask_layout fs h → IsAsk h × (ask_fields h ≡ fs)
ask_meant h fs a =
    let root = front of_word 0 31 (λ root. then_layout path_layout (behind_path root)) fs h a in
    let path = parted path_layout (behind_path root.n) root.others h root.taken in
    let client = parted client_layout (behind_client root.n path.x) path.gs h path.second in
    let server = parted server_layout (behind_server root.n path.x client.x) client.gs h client.second in
    let clock = mapped (clock_layout (max client.x.number server.x.number + 1)) (λ clock. ask_of root.n path.x client.x server.x clock) server.gs h server.second in
    let p = path_meant path.x path.fs path.first in
    let c = client_meant client.x client.fs client.first in
    let s = server_meant server.x server.fs server.first in
    let k = clock_meant (max client.x.number server.x.number + 1) clock.x server.gs clock.taken in
    let all = join_ask root.n path.x client.x server.x clock.x fs root.others path.fs path.gs client.fs client.gs server.fs server.gs
    root.are path.are client.are server.are p.are c.are s.are k.are in
    subst (λ w. IsAsk w × (ask_fields w ≡ fs)) (sym clock.is)
    (ask_is root.n path.x client.x server.x clock.x path.fs client.fs server.fs server.gs root.high p c s k, sym all)
